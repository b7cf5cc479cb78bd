-- A load.
use Rattle.qcue.proofs.Performing.{loaded}
use Rattle.qcue.proofs.lines.perform.Goals as goal

pub returns-in-Load-clause-kept : goal.returns-in-Load-clause-kept
returns-in-Load-clause-kept g c = loaded _ _ _ _ _ _ c.in-Load.is c.load.ensures.kept
