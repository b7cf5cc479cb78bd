-- Instants are described by their numbers.
use Rattle.algebra.proofs.GroupLaws.{instants_measured}
use Rattle.algebra.proofs.instant.InstantsTimed.numbers.Goals as goal

pub returns-clause-measured : goal.returns-clause-measured
returns-clause-measured c = instants_measured
