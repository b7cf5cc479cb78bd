-- Which entries are linked by way of a third.
use Rattle.std.proofs.Common.{◌≡◌, ℕ, zero, suc, ◌<◌, Bool, true, false, ◌≢◌, refl, arith, lit<}
use mathlib.Core.List.Memᴰ
use Rattle.std.proofs.lemmas.Bool.{false≢true}
use Rattle.network.specs.Links.{Linked, tied, filled}
use Rattle.network.proofs.Links.{least}
use Rattle.network.proofs.Computed.{every, every_at}
use Rattle.known_answers.specs.Networks.{to_three, to_zero}

module _ (a b c : ℕ) where
  zero_three : Linked (to_three a b c) 0 3
  zero_three = tied (Memᴰ.head refl)

  one_three : Linked (to_three a b c) 1 3
  one_three = tied (Memᴰ.tail (Memᴰ.head refl))

  two_three : Linked (to_three a b c) 2 3
  two_three = tied (Memᴰ.tail (Memᴰ.tail (Memᴰ.head refl)))

  pub over_greater : Linked (to_three a b c) 0 1 × Linked (to_three a b c) 0 2 × Linked (to_three a b c) 1 2
  over_greater = (
    filled (λ e. omega arith) (lit< tt) (lit< tt) zero_three one_three,
    filled (λ e. omega arith) (lit< tt) (lit< tt) zero_three two_three,
    filled (λ e. omega arith) (lit< tt) (lit< tt) one_three two_three,
  )

-- exactly one of the two is 0
abbrev one_zero : ℕ → ℕ → Bool
one_zero zero zero = false
one_zero zero (suc j) = true
one_zero (suc i) zero = true
one_zero (suc i) (suc j) = false

turns : (i j : ℕ) → one_zero i j ≡ true → one_zero j i ≡ true
turns zero zero h = h
turns zero (suc j) h = refl
turns (suc i) zero h = refl
turns (suc i) (suc j) h = h

-- a greater entry is not 0, so that both of the two would be
fills : (i j k : ℕ) → i ≢ j → i < k → j < k → one_zero i k ≡ true → one_zero j k ≡ true → one_zero i j ≡ true
fills i j zero d x y p q = absurd (omega arith)
fills zero zero (suc k) d x y p q = absurd (d refl)
fills zero (suc j) (suc k) d x y p q = refl
fills (suc i) j (suc k) d x y p q = absurd (false≢true p)

pub not_over_smaller : (a b : ℕ) → ¬ Linked (to_zero a b) 1 2
unfolding every
not_over_smaller a b l =
    let e = every_at (λ t. one_zero t.first t.second) (to_zero a b) refl in
    false≢true (least (to_zero a b) one_zero e turns fills 1 2 l)
