-- The lines of the row so far stand.
use Rattle.std.proofs.Common.{◌≡◌, ◌≤◌, string_bytes}
use Rattle.listing.proofs.Adding.{RowTo}
use Rattle.listing.proofs.listings.Lines.add_row.Given as goal

abbrev pub invariant-loop-second : goal.invariant-loop-second
invariant-loop-second g l =
    let lent = l.initial.self.programme in
    record {
      same : l.self.programme ≡ lent;
      within : l.second ≤ 48;
      few : l.tied ≤ l.second;
      lines : RowTo (g.B.Algebra.meaning lent.now.algebra) lent.now.sheet l.first l.second (string_bytes l.initial.self.text)
          (string_bytes l.self.text) l.tied;
    }
