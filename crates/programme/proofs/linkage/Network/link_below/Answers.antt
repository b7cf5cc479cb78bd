-- The lowest of the neighbours that are left is linked with all the others.
use Rattle.std.proofs.Common.{◌≡◌, ℕ, ◌-◌, ◌*◌, ◌%◌, ◌^◌, ◌<◌, true, false, not, get_or, ap, ◌∙◌, inl, inr, arith, rules}
use lib.Bits.{bit_and}
use Rattle.std.proofs.lemmas.Nat.{one_shl}
use Rattle.std.proofs.lemmas.Bool.{both_ways}
use Rattle.algebra.specs.Masks.{has}
use Rattle.algebra.specs.Bits.{has_zero, has_cut, cut_has}
use Rattle.programme.proofs.Bits.{has_not, low_bits, from_low_bits, left_within}
use Rattle.programme.proofs.Growth.{grown_none, row_grown, row_done}
use Rattle.programme.proofs.linkage.Network.link_below.Goals as goal

pub loop-i-init : goal.loop-i-init
loop-i-init c =
    let k = c.args.k in
    let row = get_or c.args.self.now.links k 0 in
    let l : k < 48 = c.requires in
    let one = 1 * 2 ^ k % 2 ^ 64 in
    let e : one ≡ 2 ^ k = one_shl k 64 (omega arith) in
    record {
      near = λ x h. low_bits k row one x e h;
      grown = grown_none _ _;
      done = λ x y h n. elim n [
        | inl z ↦
            let o = h.order in
            let q = h.low in
            absurd (both_ways (has (bit_and row (one - 1)) x) z (from_low_bits k row one x e (omega arith) h.first))
        | inr z ↦ absurd (both_ways (has (bit_and row (one - 1)) y) z (from_low_bits k row one y e h.low h.second))
      ];
    }

pub link_each-requires-clause-others : goal.link_each-requires-clause-others
link_each-requires-clause-others c j h =
    let q = (c.loop-i.invariant.near j (left_within c.in-Some.ensures.steps j (has_cut _ _ j h).0)).0 in
    omega (arith, c.requires)

pub loop-i-preserved : goal.loop-i-preserved
loop-i-preserved c =
    let s = c.args.self.now in
    let t = c.loop-i.self in
    let u = c.link_each.new.self in
    let rest = c.loop-i.lower.0 in
    let i = c.in-Some.i in
    let next = c.next.new.self.0 in
    let row = get_or t.links i 0 in
    let missing = bit_and next (2 ^ 64 - 1 - row) in
    let low = c.in-Some.ensures.steps in
    let near = c.loop-i.invariant.near in
    let f : row < 2 ^ 64 = search rules in
    let part = λ (x : ℕ) (h : has missing x ≡ true). (has_cut next (2 ^ 64 - 1 - row) x h).0 in
    let whole = λ (x : ℕ) (h : has next x ≡ true) (n : has row x ≡ false).
    let q = (near x (left_within low x h)).0 in
    cut_has next (2 ^ 64 - 1 - row) x h (has_not 64 row x f (omega (arith, c.requires)) ∙ ap not n) in
    record {
      near = λ x h. near x (left_within low x h);
      grown =
          row_grown s t u c.args.k i rest next missing low near c.loop-i.invariant.grown c.loop-i.invariant.done part
          whole c.link_each.ensures.grown c.link_each.ensures.all;
      done =
          row_done s t u c.args.k i rest next missing low near c.loop-i.invariant.grown c.loop-i.invariant.done part
          whole c.link_each.ensures.grown c.link_each.ensures.all;
    }

pub returns-clause-all : goal.returns-clause-all
returns-clause-all c a b h = c.loop-i.invariant.done a b h (inl (rw c.in_default.ensures.steps.0 (has_zero a)))
