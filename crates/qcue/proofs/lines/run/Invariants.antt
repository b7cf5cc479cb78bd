-- The requests so far are performed.
use Rattle.std.proofs.Common.{◌≡◌, take}
use Rattle.programme.specs.Line.{Line}
use Rattle.qcue.specs.Performed.{turn_of, TurnKeeps}
use Rattle.qcue.proofs.lines.run.Given as goal

abbrev pub invariant-loop-k : goal.invariant-loop-k
invariant-loop-k g l =
    (l.programme.algebra ≡ l.initial.programme.algebra)
    × Line (λ s request r t. TurnKeeps (g.B.Algebra.meaning l.initial.programme.algebra) s (turn_of request) r t)
    l.initial.programme.sheet (take l.k l.requests) (take l.k l.answers) l.programme.sheet
