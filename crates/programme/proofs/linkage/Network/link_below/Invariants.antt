-- Pairs of lower neighbours are linked unless both are left.
use Rattle.std.proofs.Common.{◌≡◌, ℕ, ◌<◌, true, false, ◌⊎◌}
use Rattle.algebra.specs.Masks.{has}
use Rattle.programme.specs.Networks.{bit_at}
use Rattle.programme.specs.Steps.{Grown, Below}
use Rattle.programme.proofs.linkage.Network.link_below.Given as goal

abbrev pub invariant-loop-i : goal.invariant-loop-i
invariant-loop-i l = record {
  near : (x : ℕ) → has l.lower.0 x ≡ true → (x < l.k) × (bit_at l.initial.self.links l.k x ≡ true);
  grown : Grown (Below l.initial.self l.k) l.initial.self l.self;
  done : (a b : ℕ) → Below l.initial.self l.k a b → (has l.lower.0 a ≡ false) ⊎ (has l.lower.0 b ≡ false) →
      bit_at l.self.links a b ≡ true;
}

abbrev pub decreases-loop-i : goal.decreases-loop-i
decreases-loop-i l = l.lower.0
