-- The turns so far are answered.
use Rattle.std.proofs.Common.{◌≡◌, take}
use Rattle.programme.specs.Line.{Line}
use Rattle.programme.proofs.lines.perform_each.Given as goal

abbrev pub invariant-loop-k : goal.invariant-loop-k
invariant-loop-k g l =
    (l.programme.algebra ≡ l.initial.programme.algebra)
    × Line (g.T.Turn.keeps (g.B.Algebra.meaning l.initial.programme.algebra)) l.initial.programme.sheet (take l.k l.turns)
    (take l.k l.answers) l.programme.sheet
