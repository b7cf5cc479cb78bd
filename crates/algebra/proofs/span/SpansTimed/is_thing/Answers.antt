-- Two numbers are a span where the first is smaller.
use Rattle.std.proofs.Common.{get_or, pos, ◌<ℤ◌, arith, w32, SFits, rules}
use Rattle.std.proofs.lemmas.Int.{ints}
use Rattle.algebra.proofs.GroupLaws.{span_group, span_rises}
use Rattle.algebra.proofs.span.SpansTimed.is_thing.Goals as goal

pub returns-then-group-eq-NUMBERS : goal.returns-then-group-eq-NUMBERS
returns-then-group-eq-NUMBERS c =
    let f : SFits w32 (get_or c.args.group.now 0 (pos 0)) = search rules in
    let g : SFits w32 (get_or c.args.group.now 1 (pos 0)) = search rules in (
      λ t.
          let l : get_or c.args.group.now 0 (pos 0) <ℤ get_or c.args.group.now 1 (pos 0) = omega (arith, ints) in
          span_group c.args.group.now c.if-group-eq-NUMBERS.true l,
      λ x. let l = span_rises c.args.group.now x in grind (arith, ints),
    )
