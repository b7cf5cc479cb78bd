-- A pair has one given set.
use Rattle.network.proofs.Links.{one_given}
use Rattle.network.proofs.given_sets_are_one.Goals as goal

pub returns : goal.returns
returns c = one_given
