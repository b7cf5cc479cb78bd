-- One answer to a file, and to a line.
use Rattle.qcue.proofs.Determined.{one_load}
use Rattle.qcue.proofs.Performing.{one_line}
use Rattle.qcue.proofs.theorems.answers_are_determined.Goals as goal

pub returns : goal.returns
returns c = record { file = one_load; line = one_line }
