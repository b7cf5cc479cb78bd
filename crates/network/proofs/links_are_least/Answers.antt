-- The links are the least such set.
use Rattle.network.proofs.Links.{least}
use Rattle.network.proofs.links_are_least.Goals as goal

pub returns : goal.returns
returns c = least
