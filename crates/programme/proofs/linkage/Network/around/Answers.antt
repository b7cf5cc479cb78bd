-- The triangles on a link, one for each entry that both are linked with.
use Rattle.std.proofs.Common.{◌≡◌, ap}
use lib.Bits.{bit_and}
use Rattle.std.proofs.lemmas.Bool.{both_ways}
use Rattle.algebra.specs.Masks.{has}
use Rattle.algebra.specs.Bits.{has_cut, cut_has, has_zero}
use Rattle.algebra.specs.declared.members.Members.{Members}
use Rattle.programme.specs.Steps.{Link, Around}
use Rattle.programme.proofs.Bits.{left_within}
use Rattle.programme.proofs.Moves.{move_none, link_moved, link_met}
use Rattle.programme.proofs.linkage.Network.around.Goals as goal

pub loop-k-init : goal.loop-k-init
loop-k-init g c =
    let m = g.B.Algebra.meaning c.args.algebra.now in
    let a = c.neighbours.result in
    let b = c.neighbours-2.result in
    let e : c.into_iter-k-iterator.result.0 ≡ bit_and a b = ap (λ (s : Members). s.0) c.into_iter-k-iterator.ensures.into_iter_gives in
    record {
      near = λ x h.
          let p = has_cut a b x (rw e at h) in
          let q = c.neighbours.ensures.only x p.0 in
          (q.0, q.1, (c.neighbours-2.ensures.only x p.1).1);
      moved = move_none m (Link c.args.i c.args.j) c.args.self.now;
      met = λ x l p q n.
          absurd {A = Around m c.args.self.now c.args.i x c.args.j} (both_ways (has (bit_and a b) x) (rw e at n)
          (cut_has a b x (c.neighbours.ensures.all x l p) (c.neighbours-2.ensures.all x l q)));
    }

pub loop-k-preserved : goal.loop-k-preserved
loop-k-preserved g c =
    let m = g.B.Algebra.meaning c.args.algebra.now in
    let s = c.args.self.now in
    let t = c.loop-k.self in
    let u = c.triangle.new.self in
    let i = c.args.i in
    let j = c.args.j in
    let k = c.in-Some.k in
    let low = c.in-Some.ensures.steps in
    let near = c.loop-k.invariant.near k low.there in
    let p = c.loop-k.invariant.moved in
    let q = c.triangle.ensures.moved in
    record {
      near = λ x h. c.loop-k.invariant.near x (left_within low x h);
      moved = link_moved m s t u i k j p q near.1 near.2;
      met = link_met m s t u i k j p q _ _ low c.triangle.ensures.met c.loop-k.invariant.met;
    }

pub returns-clause-met : goal.returns-clause-met
returns-clause-met g c k l p q = c.loop-k.invariant.met k l p q (rw c.in-None.ensures.steps.0 (has_zero k))
