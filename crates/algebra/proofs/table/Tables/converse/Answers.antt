use Rattle.std.proofs.Common.{length, ◌^◌, ◌<◌, ap, ◌∙◌, arith}
use lib.Bits.{and_le_r}
use Rattle.std.proofs.lemmas.Nat.{one_shl}
use Rattle.algebra.specs.Masks.{union}
use Rattle.algebra.specs.Meaning.{converses}
use Rattle.algebra.specs.Tables.{turned}
use Rattle.algebra.proofs.Lowest.{visited_below, union_step, union_end}
use Rattle.algebra.proofs.table.Tables.converse.Goals as goal

pub loop-k-init : goal.loop-k-init
unfolding converses
loop-k-init c =
    let self = c.args.self.now in
    let e = ap (λ i. i.0) c.into_iter-k-iterator.ensures.into_iter_gives ∙ c.from-k-items.ensures in
    record {
      below = rw e (and_le_r c.args.set self.universe);
      united = ap (λ i. union i (λ a. 2 ^ turned self.converses.now a) 32) e;
    }

pub offset_bounds-self-k : goal.offset_bounds-self-k
offset_bounds-self-k c =
    let place = visited_below 32 c.loop-k.k-iterator.0 c.in-Some.k _ c.in-Some.ensures.steps (omega arith) in omega arith

pub bounds-self-k : goal.bounds-self-k
bounds-self-k c =
    visited_below (length c.args.self.now.converses.now) c.loop-k.k-iterator.0 c.in-Some.k _ c.in-Some.ensures.steps (omega (arith, c.args.self.now.within))

pub overflow_shl-sum : goal.overflow_shl-sum
overflow_shl-sum c =
    c.args.self.now.readings c.in-Some.k
    (visited_below (length c.args.self.now.converses.now) c.loop-k.k-iterator.0 c.in-Some.k _ c.in-Some.ensures.steps (omega (arith, c.args.self.now.within)))

pub loop-k-preserved : goal.loop-k-preserved
loop-k-preserved c =
    let self = c.args.self.now in
    let visit = c.in-Some.ensures.steps in
    let place : c.in-Some.k < length c.args.self.now.converses.now = visited_below (length c.args.self.now.converses.now) c.loop-k.k-iterator.0 c.in-Some.k _ visit (omega (arith, self.within)) in
    record {
      below = omega (arith, visit.less);
      united =
          union_step c.loop-k.k-iterator.0 c.in-Some.k _ (λ a. 2 ^ turned self.converses.now a) c.loop-k.sum _ _ visit (omega arith)
          (one_shl _ 32 (self.readings c.in-Some.k place)) c.loop-k.invariant.united;
    }

pub returns : goal.returns
returns c = union_end c.loop-k.k-iterator.0 _ c.loop-k.sum _ c.in-None.ensures.steps.0 c.loop-k.invariant.united
