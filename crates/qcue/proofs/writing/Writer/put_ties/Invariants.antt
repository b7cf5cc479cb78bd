-- The rows of earlier entries are put.
use Rattle.std.proofs.Common.{◌≡◌, ◌+◌, ◌*◌, ◌≤◌}
use Rattle.qcue.proofs.Laying.{TiesTo}
use Rattle.qcue.proofs.writing.Writer.put_ties.Given as goal

abbrev pub invariant-loop-first : goal.invariant-loop-first
invariant-loop-first g l =
    let old = l.initial.self in
    record {
      same : l.self.buffer.ghost_name ≡ old.buffer.ghost_name;
      few : l.self.at ≤ old.at + 480 * l.first;
      tied : TiesTo (g.B.Algebra.meaning l.programme.algebra) l.programme.sheet l.first old.buffer.now old.at
          l.self.buffer.now l.self.at;
    }
