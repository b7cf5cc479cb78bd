-- Head, entries, ties and end.
use Rattle.std.proofs.Common.{refl, rules}
use Rattle.qcue.specs.Laid.{PutFile}
use Rattle.qcue.proofs.Laying.{file_laid}
use Rattle.qcue.proofs.writing.lay_out.Goals as goal

pub returns-clause-laid : goal.returns-clause-laid
returns-clause-laid g c =
    let programme = c.args.programme.now in
    let last = c.put-2.new.self in
    let laid : PutFile (g.B.Algebra.meaning programme.algebra) programme.sheet c.args.buffer.now last.buffer.now last.at =
    file_laid _ _ _ c.entries.ensures.counted _ _ _ _ _ _ _ _ _ _ _ _ _ c.stamp.ensures c.head_record.ensures.value
    c.end_record.ensures refl c.put.ensures.put c.put_entries.ensures.entered c.put_ties.ensures.tied c.put-2.ensures.put in
    search rules
