-- The rows so far have no bit.
use Rattle.std.proofs.Common.{◌≡◌, ℕ, ◌<◌, false}
use Rattle.programme.specs.Networks.{bit_at}
use Rattle.programme.proofs.linkage.Network.take.Given as goal

abbrev pub invariant-loop-i : goal.invariant-loop-i
invariant-loop-i l = (l.self ≡ l.initial.self) × ((x y : ℕ) → x < l.i → y < 48 → bit_at l.self.pending x y ≡ false)
