use Rattle.std.proofs.Common.{◌≡◌, ◌≤◌}
use lib.Bits.{bit_or}
use Rattle.algebra.specs.Masks.{union}
use Rattle.algebra.specs.Tables.{turned}
use Rattle.algebra.proofs.table.union_at.Given as goal

abbrev pub invariant-loop-k : goal.invariant-loop-k
invariant-loop-k l = record {
  below : l.k-iterator.0 ≤ l.set;
  united : bit_or l.sum (union l.k-iterator.0 (turned l.row) 32) ≡ union l.set (turned l.row) 32;
}
