-- The entries from k on are done.
use Rattle.programme.specs.Steps.{Grown, Implied, FullFrom}
use Rattle.programme.proofs.linkage.Network.fill.Given as goal

abbrev pub invariant-loop-k : goal.invariant-loop-k
invariant-loop-k l = Grown (Implied l.initial.self) l.initial.self l.self × FullFrom l.k l.self
