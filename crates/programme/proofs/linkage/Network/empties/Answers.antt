-- There are no links, or none is left at the end.
use Rattle.std.proofs.Common.{sym, ◌∙◌}
use Rattle.std.proofs.lemmas.Bool.{false≢true}
use Rattle.algebra.specs.Bits.{has_zero}
use Rattle.programme.proofs.linkage.Network.empties.Goals as goal

pub returns-then-linked-eq0 : goal.returns-then-linked-eq0
returns-then-linked-eq0 c = (
  λ e. absurd (false≢true e),
  λ (j, l, on, z). absurd (false≢true (sym (has_zero j) ∙ rw c.if-linked-eq0.true at c.neighbours-linked.ensures.all j l on)),
)

pub returns : goal.returns
returns c = (
  λ e. absurd (false≢true e),
  λ (j, l, on, z). absurd (c.loop-j.invariant.done j l on (rw c.in-None.ensures.steps.0 (has_zero j)) z),
)
