use Rattle.std.proofs.Common.{length, ap, ◌∙◌, arith}
use lib.Bits.{bit_and, bit_or, and_le_r}
use Rattle.algebra.specs.Masks.{union}
use Rattle.algebra.specs.Meaning.{compositions}
use Rattle.algebra.specs.Tables.{turned, composed, rows_of}
use Rattle.algebra.proofs.Lowest.{visited_below, union_step, union_end, part_all}
use Rattle.algebra.proofs.Rows.{row_at, rows_tall, row_wide}
use Rattle.algebra.proofs.table.Tables.refine.Goals as goal

pub loop-k-init : goal.loop-k-init
unfolding compositions
loop-k-init c =
    let self = c.args.self.now in
    let e = ap (λ i. i.0) c.into_iter-k-iterator.ensures.into_iter_gives ∙ c.from-k-items.ensures in
    record {
      below = rw e (and_le_r c.args.first self.universe);
      united = ap (λ i. union i (λ a. union (bit_and c.args.second self.universe) (composed (rows_of self.compositions.now) a) 32) 32) e;
    }

pub offset_bounds-self-k : goal.offset_bounds-self-k
offset_bounds-self-k c =
    let place = visited_below 32 c.loop-k.k-iterator.0 c.in-Some.k _ c.in-Some.ensures.steps (omega arith) in omega arith

pub bounds-self-k : goal.bounds-self-k
bounds-self-k c =
    let self = c.args.self.now in
    rw (rows_tall (length self.converses.now) self.compositions.now self.square)
    (visited_below _ c.loop-k.k-iterator.0 c.in-Some.k _ c.in-Some.ensures.steps (omega (arith, self.within)))

pub union_at-sum-requires : goal.union_at-sum-requires
union_at-sum-requires c =
    let self = c.args.self.now in
    let n = length self.converses.now in
    let columns = and_le_r c.args.second self.universe in
    let place = visited_below n c.loop-k.k-iterator.0 c.in-Some.k _ c.in-Some.ensures.steps (omega (arith, self.within)) in
    rw (row_wide n self.compositions.now self.square c.in-Some.k place) (record {
      few = self.few;
      within = omega (arith, self.within);
    })

pub returns-then-target-sum : goal.returns-then-target-sum
returns-then-target-sum c =
    let self = c.args.self.now in
    let columns = bit_and c.args.second self.universe in
    part_all c.args.target (bit_or c.loop-k.sum c.union_at-sum.result) _ c.if-target-sum.true
    ∙ ap (bit_and c.args.target)
    (union_step c.loop-k.k-iterator.0 c.in-Some.k _ _ c.loop-k.sum _ _ c.in-Some.ensures.steps (omega arith)
    (c.union_at-sum.ensures ∙ ap (λ row. union columns (turned row) 32) (row_at self.compositions.now c.in-Some.k)) c.loop-k.invariant.united)

pub loop-k-preserved : goal.loop-k-preserved
loop-k-preserved c =
    let self = c.args.self.now in
    let columns = bit_and c.args.second self.universe in
    let visit = c.in-Some.ensures.steps in
    record {
      below = omega (arith, visit.less);
      united =
          union_step c.loop-k.k-iterator.0 c.in-Some.k _ _ c.loop-k.sum _ _ visit (omega arith)
          (c.union_at-sum.ensures ∙ ap (λ row. union columns (turned row) 32) (row_at self.compositions.now c.in-Some.k)) c.loop-k.invariant.united;
    }

pub returns : goal.returns
returns c =
    ap (bit_and c.args.target)
    (union_end c.loop-k.k-iterator.0 _ c.loop-k.sum _ c.in-None.ensures.steps.0 c.loop-k.invariant.united)
