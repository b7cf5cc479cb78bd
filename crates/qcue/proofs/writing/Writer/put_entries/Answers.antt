-- One entry more.
use Rattle.std.proofs.Common.{refl, ◌∙◌, arith}
use Rattle.qcue.proofs.Laying.{entries_none, entries_more}
use Rattle.qcue.proofs.writing.Writer.put_entries.Goals as goal

pub loop-number-init : goal.loop-number-init
loop-number-init g c = record { same = refl; few = omega arith; entered = entries_none _ _ _ _ }

pub loop-number-preserved : goal.loop-number-preserved
loop-number-preserved g c =
    let told = c.put_entry.ensures in
    let inv = c.loop-number.invariant in
    record {
      same = told.same ∙ inv.same;
      few = omega (arith, told.few, inv.few);
      entered =
          entries_more _ _ _ c.entries-number-end.ensures.counted _ _ _ _ _ _ _ c.loop-number-test.true inv.entered
          told.entered;
    }
