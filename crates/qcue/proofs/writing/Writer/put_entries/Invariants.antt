-- The first entries are put.
use Rattle.std.proofs.Common.{◌≡◌, ◌+◌, ◌*◌, ◌≤◌}
use Rattle.qcue.proofs.Laying.{EntriesTo}
use Rattle.qcue.proofs.writing.Writer.put_entries.Given as goal

abbrev pub invariant-loop-number : goal.invariant-loop-number
invariant-loop-number g l =
    let old = l.initial.self in
    record {
      same : l.self.buffer.ghost_name ≡ old.buffer.ghost_name;
      few : l.self.at ≤ old.at + 16 * l.number;
      entered : EntriesTo (g.B.Algebra.meaning l.programme.algebra) l.programme.sheet l.number old.buffer.now old.at
          l.self.buffer.now l.self.at;
    }
