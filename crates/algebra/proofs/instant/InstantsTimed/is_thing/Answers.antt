-- Every single number is an instant.
use Rattle.std.proofs.Common.{length}
use Rattle.std.proofs.lemmas.Bool.{eqb-true, eq-eqb}
use Rattle.algebra.proofs.GroupLaws.{instant_group, instants_measured}
use Rattle.algebra.proofs.instant.InstantsTimed.is_thing.Goals as goal

pub returns : goal.returns
returns c = (
  λ t. (_, instant_group c.args.group.now (eqb-true _ 1 t)),
  λ x. eq-eqb (length c.args.group.now) 1 (instants_measured.sized c.args.group.now x),
)
