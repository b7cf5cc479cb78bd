-- An entry that is not there, and one that is.
use Rattle.qcue.proofs.Laying.{entry_missing, entry_put}
use Rattle.qcue.proofs.writing.Writer.put_entry.Goals as goal

pub returns-in_default-clause-entered : goal.returns-in_default-clause-entered
returns-in_default-clause-entered g c = entry_missing _ _ _ _ _ (λ L w. (c.in_default.ensures.told L w).1)

pub returns-in-Ok-clause-entered : goal.returns-in-Ok-clause-entered
returns-in-Ok-clause-entered g c =
    entry_put _ _ _ _ _ _ _ _ _ _ _ (λ L w. (c.in-Ok.ensures.told L w).1) c.prefix.ensures c.put.ensures.put
    c.put-in-Ok.ensures.put
