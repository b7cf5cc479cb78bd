-- One row more.
use Rattle.std.proofs.Common.{refl, ◌∙◌, arith}
use Rattle.qcue.proofs.Laying.{ties_none, ties_more}
use Rattle.qcue.proofs.writing.Writer.put_ties.Goals as goal

pub loop-first-init : goal.loop-first-init
loop-first-init g c = record { same = refl; few = omega arith; tied = ties_none _ _ _ _ }

pub loop-first-preserved : goal.loop-first-preserved
loop-first-preserved g c =
    let told = c.put_row.ensures in
    let inv = c.loop-first.invariant in
    record {
      same = told.same ∙ inv.same;
      few = omega (arith, told.few, inv.few);
      tied =
          ties_more _ _ _ c.entries-first-end.ensures.counted _ _ _ _ _ _ _ c.loop-first-test.true inv.tied told.paired;
    }
