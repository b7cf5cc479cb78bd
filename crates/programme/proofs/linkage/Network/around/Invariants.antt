-- What is left of the common neighbours, and what has been narrowed by way of the others.
use Rattle.std.proofs.Common.{◌≡◌, ℕ, ◌<◌, true, false}
use Rattle.algebra.specs.Masks.{has}
use Rattle.programme.specs.Networks.{bit_at}
use Rattle.programme.specs.Steps.{Link, Move, Around}
use Rattle.programme.proofs.linkage.Network.around.Given as goal

abbrev pub invariant-loop-k : goal.invariant-loop-k
invariant-loop-k g l = record {
  near : (x : ℕ) → has l.k-iterator.0 x ≡ true →
      (x < 48) × (bit_at l.initial.self.links l.i x ≡ true) × (bit_at l.initial.self.links l.j x ≡ true);
  moved : Move (g.B.Algebra.meaning l.algebra) (Link l.i l.j) l.initial.self l.self;
  met : (x : ℕ) → x < 48 → bit_at l.initial.self.links l.i x ≡ true →
      bit_at l.initial.self.links l.j x ≡ true → has l.k-iterator.0 x ≡ false →
      Around (g.B.Algebra.meaning l.algebra) l.self l.i x l.j;
}
