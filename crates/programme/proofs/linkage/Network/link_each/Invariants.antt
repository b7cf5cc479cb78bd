-- Those that are not left are linked.
use Rattle.std.proofs.Common.{◌≡◌, ℕ, true, false}
use Rattle.algebra.specs.Masks.{has}
use Rattle.programme.specs.Networks.{bit_at}
use Rattle.programme.specs.Steps.{Grown, Each}
use Rattle.programme.proofs.linkage.Network.link_each.Given as goal

abbrev pub invariant-loop-j : goal.invariant-loop-j
invariant-loop-j l = record {
  left : (x : ℕ) → has l.j-iterator.0 x ≡ true → has l.others x ≡ true;
  grown : Grown (Each l.i l.others) l.initial.self l.self;
  done : (x : ℕ) → has l.others x ≡ true → has l.j-iterator.0 x ≡ false → bit_at l.self.links l.i x ≡ true;
}
