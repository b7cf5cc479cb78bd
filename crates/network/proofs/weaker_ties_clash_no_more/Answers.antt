-- Ties that follow from others.
use Rattle.network.proofs.Following as following
use Rattle.network.proofs.weaker_ties_clash_no_more.Goals as goal

pub returns : goal.returns
returns c = record { implied = following.implied; weaker = following.weaker; alike = following.alike }
