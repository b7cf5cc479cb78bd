-- The lines of the first entries stand.
use Rattle.std.proofs.Common.{◌≡◌, string_bytes}
use Rattle.listing.proofs.Adding.{EntriesTo}
use Rattle.listing.proofs.listings.Lines.add_entries.Given as goal

abbrev pub invariant-loop-number : goal.invariant-loop-number
invariant-loop-number g l =
    let lent = l.initial.self.programme in
    record {
      same : l.self.programme ≡ lent;
      lines : EntriesTo (g.B.Algebra.meaning lent.now.algebra) lent.now.sheet l.number (string_bytes l.initial.self.text)
          (string_bytes l.self.text);
    }
