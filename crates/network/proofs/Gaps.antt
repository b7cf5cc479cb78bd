-- Steps that sets of instants ask from one entry to another: 0, none; 1, to be no later; 2, to be earlier.
use Rattle.std.proofs.Common.{◌≡◌, ℕ, ◌+◌, ◌<◌, ◌≤◌, Bool, true, false, cond, not, ◌&&◌, eqb, ltb, leb, pos, refl, ap, inl, inr, arith}
use Rattle.std.proofs.lemmas.Int.{ints}
use Rattle.std.proofs.lemmas.Bool.{eqb-true, leb-true, lt-ltb, ne_eqb, not_from_false, and_parts, and_from, cases_order}
use Rattle.algebra.specs.Masks.{has, union}
use Rattle.algebra.specs.Meaning.{converses, compositions, converse_of, composition_of}
use Rattle.algebra.specs.Things.{In as Between}
use Rattle.algebra.specs.Instants.{instants, InstantsStand}
use Rattle.algebra.specs.Tests.{all, all_at, if_so, so}
use Rattle.network.specs.Ties.{In}

-- 0 where later is allowed, else 1 where the same is, else 2
unfoldable pub gap : Bool → Bool → ℕ
gap later same = cond later 0 (cond same 1 2)

-- what a set asks from its first entry to its second
unfoldable pub step : ℕ → ℕ
step s = gap (has s 2) (has s 0)

pub gap_small : (a b : Bool) → gap a b ≤ 2
unfolding gap
gap_small a b = grind arith

pub gap_less : (a b c d : Bool) → (a ≡ true → c ≡ true) → (b ≡ true → d ≡ true) → gap c d ≤ gap a b
unfolding gap
gap_less a b c d f g = grind arith

-- in a composition each of two steps is within the step of the whole
composed_test : all 8 (λ s. all 8 (λ t. if_so (ltb 0 (step s) && ltb 0 (step t))
    (leb (step s) (step (composition_of instants s t)) && leb (step t) (step (composition_of instants s t))))) ≡ true
unfolding all step gap has union compositions
composed_test = refl

pub step_composed : (s t : ℕ) → s < 8 → t < 8 → 0 < step s → 0 < step t →
    (step s ≤ step (composition_of instants s t)) × (step t ≤ step (composition_of instants s t))
step_composed s t hs ht p q =
    let w = and_parts _ _ (so _ _ (all_at 8 _ (all_at 8 _ composed_test s hs) t ht)
    (and_from _ _ (lt-ltb 0 (step s) p) (lt-ltb 0 (step t) q))) in
    (leb-true _ _ w.0, leb-true _ _ w.1)

-- steps there and back leave the two entries at one time, unless nothing is allowed
even_test : all 8 (λ s. if_so (not (eqb s 0) && (ltb 0 (step s) && ltb 0 (step (converse_of instants s))))
    (leb (step s + step (converse_of instants s)) 2)) ≡ true
unfolding all step gap has union converses
even_test = refl

pub step_even : (s : ℕ) → s < 8 → ¬ (s ≡ 0) → 0 < step s → 0 < step (converse_of instants s) →
    step s + step (converse_of instants s) ≤ 2
step_even s h z p q =
    leb-true _ _ (so _ _ (all_at 8 _ even_test s h)
    (and_from _ _ (not_from_false _ (ne_eqb s 0 z))
    (and_from _ _ (lt-ltb 0 (step s) p) (lt-ltb 0 (step (converse_of instants s)) q))))

back_test : all 8 (λ s. eqb (step (converse_of instants s)) (gap (has s 1) (has s 0))) ≡ true
unfolding all step gap has union converses
back_test = refl

pub step_back : (s : ℕ) → s < 8 → step (converse_of instants s) ≡ gap (has s 1) (has s 0)
step_back s h = eqb-true _ _ (all_at 8 _ back_test s h)

-- ---- numbers that keep the steps there and back stand in a reading of the set, if it is convex

not_over : (a b : Bool) (p q : ℕ) → q < p → (0 < gap a b → p + gap a b ≤ q + 1) → a ≡ true
unfolding gap
not_over true b p q l f = refl
not_over false true p q l f = absurd (omega (arith, f (omega arith)))
not_over false false p q l f = absurd (omega (arith, f (omega arith)))

level : (a b c : Bool) (p q : ℕ) → p ≡ q → (c ≡ true → a ≡ true → b ≡ true) → (0 < gap a b → p + gap a b ≤ q + 1) →
    (0 < gap c b → q + gap c b ≤ p + 1) → b ≡ true
unfolding gap
level a true c p q e v f g = refl
level true false true p q e v f g = v refl refl
level true false false p q e v f g = absurd (omega (arith, g (omega arith)))
level false false c p q e v f g = absurd (omega (arith, f (omega arith)))

pub stand : (s p q : ℕ) → (In 1 s → In 2 s → In 0 s) →
    (0 < step s → p + step s ≤ q + 1) → (0 < gap (has s 1) (has s 0) → q + gap (has s 1) (has s 0) ≤ p + 1) →
    Between InstantsStand s (pos p) (pos q)
unfolding step
stand s p q v f g =
    elim (cases_order p q) [
      | inl e ↦ (0, level (has s 2) (has s 0) (has s 1) p q e v f g, ap pos e)
      | inr (inl l) ↦ (1, not_over (has s 1) (has s 0) q p l g, omega (arith, ints))
      | inr (inr l) ↦ (2, not_over (has s 2) (has s 0) p q l f, omega (arith, ints))
    ]
