use Rattle.std.proofs.Common.{length, refl, arith}
use Rattle.algebra.proofs.Lowest.{visited_below, union_step, union_end}
use Rattle.algebra.proofs.table.union_at.Goals as goal

pub offset_bounds-row-k : goal.offset_bounds-row-k
offset_bounds-row-k c =
    let place = visited_below 32 c.loop-k.k-iterator.0 c.in-Some.k _ c.in-Some.ensures.steps (omega arith) in omega arith

pub bounds-row-k : goal.bounds-row-k
bounds-row-k c = visited_below (length c.args.row.now) c.loop-k.k-iterator.0 c.in-Some.k _ c.in-Some.ensures.steps (omega arith)

pub loop-k-preserved : goal.loop-k-preserved
loop-k-preserved c =
    let visit = c.in-Some.ensures.steps in
    record {
      below = omega (arith, visit.less);
      united = union_step c.loop-k.k-iterator.0 c.in-Some.k _ _ c.loop-k.sum _ _ visit (omega arith) refl c.loop-k.invariant.united;
    }

pub returns : goal.returns
returns c = union_end c.loop-k.k-iterator.0 _ c.loop-k.sum _ c.in-None.ensures.steps.0 c.loop-k.invariant.united
