-- The pairs with earlier entries of the row are put.
use Rattle.std.proofs.Common.{◌≡◌, ◌+◌, ◌*◌, ◌≤◌}
use Rattle.qcue.proofs.Laying.{RowTo}
use Rattle.qcue.proofs.writing.Writer.put_row.Given as goal

abbrev pub invariant-loop-second : goal.invariant-loop-second
invariant-loop-second g l =
    let old = l.initial.self in
    record {
      same : l.self.buffer.ghost_name ≡ old.buffer.ghost_name;
      within : l.second ≤ 48;
      few : l.self.at ≤ old.at + 10 * l.second;
      paired : RowTo (g.B.Algebra.meaning l.programme.algebra) l.programme.sheet l.first l.second old.buffer.now old.at
          l.self.buffer.now l.self.at;
    }
