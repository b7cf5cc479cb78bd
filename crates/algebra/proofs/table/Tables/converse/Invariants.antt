use Rattle.std.proofs.Common.{◌≡◌, ◌^◌, ◌≤◌}
use lib.Bits.{bit_or}
use Rattle.algebra.specs.Masks.{union}
use Rattle.algebra.specs.Meaning.{converses}
use Rattle.algebra.specs.Tables.{turned}
use Rattle.algebra.proofs.table.Tables.converse.Given as goal

abbrev pub invariant-loop-k : goal.invariant-loop-k
invariant-loop-k l = record {
  below : l.k-iterator.0 ≤ l.self.universe;
  united : bit_or l.sum (union l.k-iterator.0 (λ a. 2 ^ turned l.self.converses.now a) 32)
      ≡ converses l.self.universe (turned l.self.converses.now) l.set;
}
