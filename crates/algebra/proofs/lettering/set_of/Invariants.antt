use Rattle.algebra.specs.Letters.{Reads}
use Rattle.algebra.proofs.lettering.set_of.Given as goal

abbrev pub invariant-loop-x : goal.invariant-loop-x
invariant-loop-x l = Reads l.code l.text l.x-index l.set
