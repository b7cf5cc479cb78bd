use Rattle.algebra.specs.InstantLaws.{instants_describe, instants_describe_sets}
use Rattle.algebra.proofs.theorems.instants_describe_numbers.Goals as goal

pub returns : goal.returns
returns c = record { readings = instants_describe; sets = instants_describe_sets }
