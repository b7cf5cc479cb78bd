-- A pair that is not tied, and one that is.
use Rattle.qcue.proofs.Puts.{put_same}
use Rattle.qcue.proofs.Laying.{pair_none, pair_some}
use Rattle.qcue.proofs.writing.Writer.put_pair.Goals as goal

pub returns-then-mask-ne0-clause-paired : goal.returns-then-mask-ne0-clause-paired
returns-then-mask-ne0-clause-paired g c =
    pair_some _ _ _ _ _ _ c.requires.1.0 c.given.ensures c.unwrap_or-mask.ensures _ _ _ _ c.if-mask-ne0.true
    (put_same _ _ _ _ _ _ c.tie_record.ensures c.put.ensures.put)

pub returns-else-mask-ne0-clause-paired : goal.returns-else-mask-ne0-clause-paired
returns-else-mask-ne0-clause-paired g c =
    pair_none _ _ _ _ _ _ c.requires.1.0 c.given.ensures c.unwrap_or-mask.ensures _ _ c.if-mask-ne0.false
