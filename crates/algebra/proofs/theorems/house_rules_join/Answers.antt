use Rattle.algebra.specs.HouseLaws.{house_over_house}
use Rattle.algebra.proofs.theorems.house_rules_join.Goals as goal

pub returns : goal.returns
returns c = house_over_house
