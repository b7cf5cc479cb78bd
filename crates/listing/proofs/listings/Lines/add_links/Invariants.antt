-- The lines of the rows so far stand.
use Rattle.std.proofs.Common.{◌≡◌, ◌*◌, ◌≤◌, string_bytes}
use Rattle.listing.proofs.Adding.{LinksUpto}
use Rattle.listing.proofs.listings.Lines.add_links.Given as goal

abbrev pub invariant-loop-first : goal.invariant-loop-first
invariant-loop-first g l =
    let lent = l.initial.self.programme in
    record {
      same : l.self.programme ≡ lent;
      few : l.tied ≤ 48 * l.first;
      lines : LinksUpto (g.B.Algebra.meaning lent.now.algebra) lent.now.sheet l.first (string_bytes l.initial.self.text)
          (string_bytes l.self.text) l.tied;
    }
