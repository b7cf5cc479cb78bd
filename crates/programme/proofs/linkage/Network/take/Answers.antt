-- The first row with a bit, and its lowest bit.
use Rattle.std.proofs.Common.{◌≡◌, ℕ, ◌^◌, ◌<◌, false, length, get_or, sym, refl, ap, ◌∙◌, inl, inr, arith, rules}
use Rattle.std.proofs.lemmas.Bool.{cases_eq, cases_Bool}
use Rattle.algebra.specs.Masks.{has}
use Rattle.algebra.specs.Bits.{has_zero}
use Rattle.programme.specs.Networks.{bit_at}
use Rattle.programme.specs.Steps.{pending_at}
use Rattle.programme.proofs.Rows.{took_by, pending_none}
use Rattle.programme.proofs.linkage.Network.take.Goals as goal
use Rattle.programme.proofs.linkage.Network.take.Goals.{in_default-via-in-None-1, in_default-via-in-Some+else-j-lt-ENTRIES}

pub returns-in-loop-i : goal.returns-in-loop-i
returns-in-loop-i c =
    let s = c.loop-i.self in
    let i = c.loop-i.i in
    let l : i < length s.pending = search rules in
    let f : get_or s.pending i 0 < 2 ^ 64 = search rules in
    took_by c.args.self.now s _ i c.in-Some.j _ c.loop-i.invariant.0 c.loop-i-test.true l c.if-j-lt-ENTRIES.true f
    c.in-Some.ensures.steps refl refl refl

pub loop-i-preserved : goal.loop-i-preserved
loop-i-preserved c = (
  c.loop-i.invariant.0,
  λ x y l h. elim (cases_eq x c.loop-i.i) [
    | inl e ↦ rw e (none y h)
    | inr n ↦ c.loop-i.invariant.1 x y (omega arith) h
  ],
)
  where
    none : (y : ℕ) → y < 48 → bit_at c.loop-i.self.pending c.loop-i.i y ≡ false
    none y h =
        let row = get_or c.loop-i.self.pending c.loop-i.i 0 in
        elim c.in_default.branch [
          | in_default-via-in-None-1 w ↦ let e : row ≡ 0 = search rules in rw e (has_zero y)
          | in_default-via-in-Some+else-j-lt-ENTRIES w ↦ elim (cases_Bool (has row y)) [
            | inl b ↦ let least = w.in-Some.ensures.steps.least y b in absurd (omega (arith, w.if-j-lt-ENTRIES.false))
            | inr b ↦ b
          ]
        ]

pub returns : goal.returns
returns c =
    let s = c.loop-i.self in (
      c.loop-i.invariant.0,
      λ x y hx hy.
          ap (λ w. pending_at w x y) (sym c.loop-i.invariant.0)
          ∙ pending_none s x y (c.loop-i.invariant.1 x y (omega arith) hy) (c.loop-i.invariant.1 y x (omega arith) hx),
    )
