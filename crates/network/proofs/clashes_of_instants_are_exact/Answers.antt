-- Clashes of instants.
use Rattle.network.proofs.Timing as timing
use Rattle.network.proofs.clashes_of_instants_are_exact.Goals as goal

pub returns : goal.returns
returns c = record { complete = timing.complete; consistent = timing.consistent; exact = timing.exact }
