-- What loads is loadable, and what is loadable loads.
use Rattle.qcue.proofs.Holding.{loads_exactly}
use Rattle.qcue.proofs.theorems.files_load_exactly.Goals as goal

pub returns : goal.returns
returns c = loads_exactly
