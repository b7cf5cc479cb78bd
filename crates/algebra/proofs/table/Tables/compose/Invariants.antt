use Rattle.std.proofs.Common.{◌≡◌, ◌≤◌}
use lib.Bits.{bit_or}
use Rattle.algebra.specs.Masks.{union}
use Rattle.algebra.specs.Meaning.{compositions}
use Rattle.algebra.specs.Tables.{composed, rows_of}
use Rattle.algebra.proofs.table.Tables.compose.Given as goal

abbrev pub invariant-loop-k : goal.invariant-loop-k
invariant-loop-k l = record {
  below : l.k-iterator.0 ≤ l.self.universe;
  united : bit_or l.sum (union l.k-iterator.0 (λ a. union l.columns (composed (rows_of l.self.compositions.now) a) 32) 32)
      ≡ compositions l.self.universe (composed (rows_of l.self.compositions.now)) l.first l.second;
}
