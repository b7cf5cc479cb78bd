-- One link more.
use Rattle.std.proofs.Common.{◌∙◌, arith}
use Rattle.listing.proofs.Adding.{one_at_most, row_more, row_all}
use Rattle.listing.proofs.listings.Lines.add_row.Goals as goal

pub loop-second-preserved : goal.loop-second-preserved
loop-second-preserved g c =
    let told = c.in_ok-add_link.ensures in
    let inv = c.loop-second.invariant in
    record {
      same = told.same ∙ inv.same;
      within = omega (arith, c.entries-second-end.ensures.few);
      few = omega (arith, c.from.ensures, one_at_most c.in_ok-add_link.field-0, inv.few);
      lines =
          row_more _ _ _ c.entries-second-end.ensures.counted _ _ _ _ _ _ _ c.loop-second-test.true inv.lines
          (rw (inv.same, ← c.from.ensures) at told.added);
    }

pub returns-clause-added : goal.returns-clause-added
returns-clause-added g c =
    row_all _ _ _ c.entries-second-end.ensures.counted _ _ _ _ _ c.loop-second-test.false c.loop-second.invariant.lines
