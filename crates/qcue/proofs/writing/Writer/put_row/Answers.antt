-- One pair more.
use Rattle.std.proofs.Common.{refl, ◌∙◌, arith}
use Rattle.qcue.proofs.Laying.{row_none, row_more, row_all}
use Rattle.qcue.proofs.writing.Writer.put_row.Goals as goal

pub loop-second-init : goal.loop-second-init
loop-second-init g c = record {
  same = refl;
  within = omega (arith, c.requires.1);
  few = omega arith;
  paired = row_none _ _ _ _ _;
}

pub loop-second-preserved : goal.loop-second-preserved
loop-second-preserved g c =
    let told = c.put_pair.ensures in
    let inv = c.loop-second.invariant in
    record {
      same = told.same ∙ inv.same;
      within = omega (arith, c.entries-second-end.ensures.few);
      few = omega (arith, told.few, inv.few);
      paired =
          row_more _ _ _ c.entries-second-end.ensures.counted _ _ _ _ _ _ _ _ c.loop-second-test.true inv.paired
          told.paired;
    }

pub returns-clause-paired : goal.returns-clause-paired
returns-clause-paired g c =
    row_all _ _ _ c.entries-second-end.ensures.counted _ _ _ _ _ _ c.loop-second-test.false c.loop-second.invariant.paired
