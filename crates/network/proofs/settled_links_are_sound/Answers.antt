-- Settled links are sound.
use Rattle.network.proofs.Nets.{sound}
use Rattle.network.proofs.settled_links_are_sound.Goals as goal

pub returns : goal.returns
returns c = sound
