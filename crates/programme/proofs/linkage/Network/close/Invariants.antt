-- What is ready stays so, and each turn leaves less to do.
use Rattle.std.proofs.Common.{◌+◌, ◌*◌, ◌^◌, List}
use Rattle.network.specs.Ties.{Tie}
use Rattle.programme.specs.Steps.{Ready, weight, load}
use Rattle.programme.proofs.linkage.Network.close.Given as goal

abbrev pub invariant-loop-i : goal.invariant-loop-i
invariant-loop-i g l =
    (ties : List Tie) → Ready (g.B.Algebra.meaning l.algebra) ties l.initial.self →
    Ready (g.B.Algebra.meaning l.algebra) ties l.self

-- a set that is cut makes up for all that becomes pending with it
abbrev pub decreases-loop-i : goal.decreases-loop-i
decreases-loop-i g l = weight l.self * 2 ^ 70 + load l.self
