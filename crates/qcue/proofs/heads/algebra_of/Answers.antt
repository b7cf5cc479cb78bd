-- A code that head never lets through.
use Rattle.qcue.proofs.Naming.{always_named}
use Rattle.qcue.proofs.heads.algebra_of.Goals as goal

pub returns-in-Err : goal.returns-in-Err
returns-in-Err c = absurd (always_named _ _ c.in_ok-code.ensures c.in-Err.ensures.0)
