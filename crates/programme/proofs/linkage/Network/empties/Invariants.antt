-- The links that have been looked at have sets.
use Rattle.std.proofs.Common.{◌≡◌, ℕ, ◌<◌, true, false, ◌≢◌}
use Rattle.algebra.specs.Masks.{has}
use Rattle.programme.specs.Networks.{bit_at, cell}
use Rattle.programme.proofs.linkage.Network.empties.Given as goal

abbrev pub invariant-loop-j : goal.invariant-loop-j
invariant-loop-j l = record {
  left : (x : ℕ) → has l.j-iterator.0 x ≡ true → (x < 48) × (bit_at l.self.links l.i x ≡ true);
  done : (x : ℕ) → x < 48 → bit_at l.self.links l.i x ≡ true → has l.j-iterator.0 x ≡ false → cell l.self.sets l.i x ≢ 0;
}
