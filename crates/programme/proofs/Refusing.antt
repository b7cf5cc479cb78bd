-- Refusals: which of them apply to a name and to a tie, and that each has its own number.
use Rattle.std.proofs.Common.{◌≡◌, ℕ, zero, suc, ◌^◌, ◌<◌, true, ◌≢◌, ◌⊎◌, List, [], ◌∷◌, get_or, Ok, Err, sym, refl, ap, ◌∙◌, inl, inr, arith, lit<}
use lib.Bits.{bit_and}
use Rattle.std.proofs.lemmas.Bool.{cases_Bool, cases_eq, false≢true}
use Rattle.algebra.specs.Masks.{has}
use Rattle.algebra.specs.Meaning.{Meaning}
use Rattle.algebra.specs.Bits.{has_cut, cut_has, has_below}
use Rattle.network.proofs.Sets.{equal}
use Rattle.programme.specs.Ledgers.{Ledger, tie, number, Below, NameFault, TieFault, Answered}
use Rattle.programme.specs.Shown.{Shows}
use Rattle.programme.specs.declared.refusals.Refusal.{Refusal}
use Rattle.programme.specs.declared.refusals.Refusal.TheVariants.{Misnamed, Unprintable, Known, Full, Absent}
use Rattle.programme.specs.declared.refusals.Refusal.TheVariants.{Same, Empty, Outside, Everything, Clash}
use Rattle.programme.specs.declared.sheets.Sheet.{Sheet}

-- ---- each refusal has its own number

numbered : ℕ → Refusal
numbered n =
    get_or
    (Clash ∷ Misnamed ∷ Unprintable ∷ Known ∷ Full ∷ Absent ∷ Same ∷ Empty ∷ Outside ∷ Everything ∷ []) n Clash

back : (refusal : Refusal) → numbered (number refusal) ≡ refusal
unfolding numbered
back Misnamed = refl
back Unprintable = refl
back Known = refl
back Full = refl
back Absent = refl
back Same = refl
back Empty = refl
back Outside = refl
back Everything = refl
back Clash = refl

pub one_number : (these those : Refusal) → number these ≡ number those → these ≡ those
one_number these those e = sym (back these) ∙ ap numbered e ∙ back those

-- ---- names: of the refusals with P, none applies if none of these does

pub no_name_fault : (L : Ledger) (name : List ℕ) (P : Refusal → Type 0) →
    (P Misnamed → ¬ NameFault L name Misnamed) → (P Unprintable → ¬ NameFault L name Unprintable) →
    (P Known → ¬ NameFault L name Known) → (P Full → ¬ NameFault L name Full) →
    (refusal : Refusal) → P refusal → ¬ NameFault L name refusal
no_name_fault L name P a b c d Misnamed = a
no_name_fault L name P a b c d Unprintable = b
no_name_fault L name P a b c d Known = c
no_name_fault L name P a b c d Full = d
no_name_fault L name P a b c d Absent = λ _ x. x
no_name_fault L name P a b c d Same = λ _ x. x
no_name_fault L name P a b c d Empty = λ _ x. x
no_name_fault L name P a b c d Outside = λ _ x. x
no_name_fault L name P a b c d Everything = λ _ x. x
no_name_fault L name P a b c d Clash = λ _ x. x

-- ---- ties: the same

module _ (m : Meaning) (L : Ledger) (i j mask : ℕ) where
  pub no_tie_fault : (P : Refusal → Type 0) →
      (P Absent → ¬ TieFault m L i j mask Absent) → (P Same → ¬ TieFault m L i j mask Same) →
      (P Empty → ¬ TieFault m L i j mask Empty) → (P Outside → ¬ TieFault m L i j mask Outside) →
      (P Everything → ¬ TieFault m L i j mask Everything) → (P Clash → ¬ TieFault m L i j mask Clash) →
      (refusal : Refusal) → P refusal → ¬ TieFault m L i j mask refusal
  no_tie_fault P a b c d e f Misnamed = λ _ x. x
  no_tie_fault P a b c d e f Unprintable = λ _ x. x
  no_tie_fault P a b c d e f Known = λ _ x. x
  no_tie_fault P a b c d e f Full = λ _ x. x
  no_tie_fault P a b c d e f Absent = a
  no_tie_fault P a b c d e f Same = b
  no_tie_fault P a b c d e f Empty = c
  no_tie_fault P a b c d e f Outside = d
  no_tie_fault P a b c d e f Everything = e
  no_tie_fault P a b c d e f Clash = f

  pub tie_fine : Below m L (tie i j mask) 10 → ¬ TieFault m L i j mask Clash → Answered m L (tie i j mask) (Ok 0)
  tie_fine below clear = (
    refl,
    λ refusal.
        no_tie_fault (λ _. Unit {0}) (λ _. below Absent (lit< tt)) (λ _. below Same (lit< tt)) (λ _. below Empty (lit< tt))
        (λ _. below Outside (lit< tt)) (λ _. below Everything (lit< tt)) (λ _. clear) refusal tt,
  )

  module _ (s : Sheet) (w : Shows m s L) (hi : i < s.count) (hj : j < s.count) (differ : i ≢ j) (some : mask ≢ 0) where
    present : ¬ TieFault m L i j mask Absent
    present x = elim x [ inl h ↦ omega (arith, w.counted) | inr h ↦ omega (arith, w.counted) ]

    pub tie_ten : bit_and mask m.universe ≡ mask → mask ≢ m.universe → Below m L (tie i j mask) 10
    tie_ten e n =
        no_tie_fault (λ refusal. number refusal < 10) (λ _. present) (λ _. differ) (λ _. some)
        (λ _ (r, a, b). false≢true (sym b ∙ (has_cut mask m.universe r (rw e a)).1)) (λ _. n) (λ h. absurd (omega arith))

    below_eight : Below m L (tie i j mask) 8
    below_eight =
        no_tie_fault (λ refusal. number refusal < 8) (λ _. present) (λ _. differ) (λ _. some)
        (λ h. absurd (omega arith)) (λ h. absurd (omega arith)) (λ h. absurd (omega arith))

    pub tie_outside : mask < 2 ^ 32 → bit_and mask m.universe ≢ mask → Answered m L (tie i j mask) (Err Outside)
    tie_outside fits n = (find, below_eight)
      where
        -- a reading below n that is outside, or none
        outside? : (n : ℕ) → TieFault m L i j mask Outside ⊎
            ((r : ℕ) → r < n → has mask r ≡ true → has m.universe r ≡ true)
        outside? zero = inr (λ r h. absurd (omega arith))
        outside? (suc n) =
            elim (outside? n) [
              | inl x ↦ inl x
              | inr f ↦
                  elim (cases_Bool (has m.universe n)) [
                    | inl u ↦ inr (λ r h x. elim (cases_eq r n) [ inl e ↦ rw e u | inr d ↦ f r (omega arith) x ])
                    | inr u ↦
                        elim (cases_Bool (has mask n)) [
                          | inl x ↦ inl (n, x, u)
                          | inr x ↦
                              inr (λ r h y. elim (cases_eq r n) [
                                | inl e ↦ absurd (false≢true (sym x ∙ rw e at y))
                                | inr d ↦ f r (omega arith) y
                              ])
                        ]
                  ]
            ]

        find : TieFault m L i j mask Outside
        find =
            elim (outside? 32) [
              | inl x ↦ x
              | inr f ↦
                  absurd (n (equal _ _ (λ r h. (has_cut mask m.universe r h).0)
                  (λ r h. cut_has mask m.universe r h (f r (has_below mask 32 r fits h) h))))
            ]
