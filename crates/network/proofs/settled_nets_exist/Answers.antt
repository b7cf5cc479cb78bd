-- The example.
use Rattle.network.proofs.Example.{inhabited}
use Rattle.network.proofs.settled_nets_exist.Goals as goal

pub returns : goal.returns
returns c = inhabited
