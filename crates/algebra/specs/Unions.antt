-- The union of masks over the readings of a set.
use Rattle.std.specs.Prelude.{◌≡◌, ℕ, zero, suc, ◌+◌, ◌-◌, ◌<◌, Bool, true, false, cond, refl}
use Rattle.std.proofs.Common.{sym, ◌∙◌, subst, inl, inr, add-zero, add-suc, add-sub_of_le, arith}
use Rattle.std.proofs.lemmas.Bool.{or_cases, or_left, or_right, false≢true}
use Rattle.algebra.specs.Masks.{has, union}
use Rattle.algebra.specs.Bits.{has_or, has_zero}

-- some reading of s below n gives c
pub record From (s : ℕ) (f : ℕ → ℕ) (n c : ℕ) : Type 0 where
  pub at : ℕ
  pub low : at < n
  pub in_set : has s at ≡ true
  pub gives : has (f at) c ≡ true

has_when : (b : Bool) (x c : ℕ) → has (cond b x 0) c ≡ true → (b ≡ true) × (has x c ≡ true)
has_when true x c h = (refl, h)
has_when false x c h = absurd (false≢true (sym (has_zero c) ∙ h))

pub union_from : (s : ℕ) (f : ℕ → ℕ) (n c : ℕ) → has (union s f n) c ≡ true → From s f n c
unfolding union
union_from s f zero c h = absurd (false≢true (sym (has_zero c) ∙ h))
union_from s f (suc n) c h =
    elim (or_cases (has (union s f n) c) _ (sym (has_or (union s f n) (cond (has s n) (f n) 0) c) ∙ h)) [
      | inl e ↦
          let r = union_from s f n c e in
          record { at = r.at; low = omega arith; in_set = r.in_set; gives = r.gives }
      | inr e ↦
          let w = has_when (has s n) (f n) c e in
          record { at = n; low = omega arith; in_set = w.0; gives = w.1 }
    ]

union_last : (s : ℕ) (f : ℕ → ℕ) (n c : ℕ) → has s n ≡ true → has (f n) c ≡ true → has (union s f (suc n)) c ≡ true
unfolding union
union_last s f n c i g =
    has_or (union s f n) (cond (has s n) (f n) 0) c ∙ or_right (has (union s f n) c) _ (rw i g)

union_keep : (s : ℕ) (f : ℕ → ℕ) (n c : ℕ) → has (union s f n) c ≡ true → has (union s f (suc n)) c ≡ true
unfolding union
union_keep s f n c h = has_or (union s f n) (cond (has s n) (f n) 0) c ∙ or_left _ (has (cond (has s n) (f n) 0) c) h

union_up : (s : ℕ) (f : ℕ → ℕ) (n d c : ℕ) → has (union s f n) c ≡ true → has (union s f (n + d)) c ≡ true
union_up s f n zero c h = rw add-zero h
union_up s f n (suc d) c h = rw add-suc (union_keep s f (n + d) c (union_up s f n d c h))

pub from_union : (s : ℕ) (f : ℕ → ℕ) (n c k : ℕ) → k < n → has s k ≡ true → has (f k) c ≡ true →
    has (union s f n) c ≡ true
from_union s f n c k l i g =
    subst (λ m. has (union s f m) c ≡ true) (add-sub_of_le l)
    (union_up s f (suc k) (n - suc k) c (union_last s f k c i g))

pub union_none : (f : ℕ → ℕ) (n : ℕ) → union 0 f n ≡ 0
unfolding union
union_none f zero = refl
union_none f (suc n) = rw (has_zero n, union_none f n)
