-- Settled nets are equal.
use Rattle.network.proofs.Nets.{unique, clash_shows}
use Rattle.network.proofs.settled_nets_are_one.Goals as goal

pub returns : goal.returns
returns c = record { equal = unique; clash = clash_shows }
