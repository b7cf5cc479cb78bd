-- None is left at the end.
use Rattle.algebra.specs.Bits.{has_zero}
use Rattle.programme.proofs.linkage.Network.link_each.Goals as goal

pub returns-clause-all : goal.returns-clause-all
returns-clause-all c j h = c.loop-j.invariant.done j h (rw c.in-None.ensures.steps.0 (has_zero j))
