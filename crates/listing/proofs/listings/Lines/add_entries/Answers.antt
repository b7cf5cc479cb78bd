-- One entry more.
use Rattle.std.proofs.Common.{◌∙◌}
use Rattle.listing.proofs.Adding.{entries_more}
use Rattle.listing.proofs.listings.Lines.add_entries.Goals as goal

pub loop-number-preserved : goal.loop-number-preserved
loop-number-preserved g c =
    let told = c.in_ok-add_entry.ensures in
    let inv = c.loop-number.invariant in
    record {
      same = told.same ∙ inv.same;
      lines =
          entries_more _ _ _ c.entries-number-end.ensures.counted _ _ _ _ c.loop-number-test.true inv.lines (rw inv.same at told.added);
    }
