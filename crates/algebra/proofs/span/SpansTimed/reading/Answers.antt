-- The reading between the two spans stands between the groups.
use Rattle.std.proofs.Common.{get_or, pos, w32, SFits, rules}
use Rattle.std.proofs.lemmas.Int.{to_z-of_z}
use Rattle.algebra.proofs.GroupLaws.{span_reads}
use Rattle.algebra.proofs.span.SpansTimed.reading.Goals as goal

pub returns : goal.returns
returns c =
    let a : SFits w32 (get_or c.args.first.now 0 (pos 0)) = search rules in
    let b : SFits w32 (get_or c.args.first.now 1 (pos 0)) = search rules in
    let d : SFits w32 (get_or c.args.second.now 0 (pos 0)) = search rules in
    let e : SFits w32 (get_or c.args.second.now 1 (pos 0)) = search rules in
    rw c.number.ensures (span_reads c.args.first.now c.args.second.now _ (c.is_thing.ensures.0 c.if-not-is_thing.false)
    (c.is_thing-else-not-is_thing.ensures.0 c.if-not-is_thing-2.false) (simp to_z-of_z at c.between.ensures))
