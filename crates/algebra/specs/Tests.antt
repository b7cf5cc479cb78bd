-- Computed tests over the numbers below a bound, and what they tell at each.
use Rattle.std.specs.Prelude.{◌≡◌, ℕ, zero, suc, ◌<◌, Bool, true, false, ◌&&◌, refl}
use Rattle.std.proofs.Common.{subst, inl, inr, not-suc-le-zero, arith}
use Rattle.std.specs.Bool.{beq}
use Rattle.std.proofs.lemmas.Bool.{and_parts, cases_lt, false≢true}

-- p passes at every number below n
unfoldable pub all : ℕ → (ℕ → Bool) → Bool
all zero p = true
all (suc n) p = p n && all n p

pub all_at : (n : ℕ) (p : ℕ → Bool) → all n p ≡ true → (k : ℕ) → k < n → p k ≡ true
unfolding all
all_at zero p t k h = absurd (not-suc-le-zero h)
all_at (suc n) p t k h =
    let e = and_parts (p n) (all n p) t in
    elim (cases_lt k n) [ inl l ↦ all_at n p e.1 k l | inr g ↦ let q : k ≡ n = omega arith in rw q e.0 ]

-- a proof of P at every number below n
abbrev pub Each : (ℕ → Type 0) → ℕ → Type 0
Each P zero = Unit {0}
Each P (suc n) = P n × Each P n

pub each_at : (P : ℕ → Type 0) (n : ℕ) → Each P n → (k : ℕ) → k < n → P k
each_at P zero t k h = absurd (not-suc-le-zero h)
each_at P (suc n) t k h =
    elim (cases_lt k n) [
      | inl l ↦ each_at P n t.1 k l
      | inr g ↦ let e : n ≡ k = omega arith in subst P e t.0
    ]

-- b is asked only where a holds
abbrev pub if_so : Bool → Bool → Bool
if_so true b = b
if_so false b = true

pub so : (a b : Bool) → if_so a b ≡ true → a ≡ true → b ≡ true
so true b t h = t
so false b t h = absurd (false≢true h)

pub alike : (a b : Bool) → beq a b ≡ true → a ≡ b
alike true true t = refl
alike true false t = absurd (false≢true t)
alike false true t = absurd (false≢true t)
alike false false t = refl
