-- Membership in a mask.
use Rattle.std.specs.Prelude.{◌≡◌, ℕ, zero, suc, ◌+◌, ◌/◌, ◌%◌, ◌^◌, ◌<◌, ◌≤◌, min, max, Bool, true, false, ◌&&◌, ◌||◌, eqb, ◌==◌, bit_and, bit_or}
use Rattle.std.proofs.Math.Path.{refl}
use Rattle.std.proofs.Common.{sym, ap, ◌∙◌, inl, inr, pow-suc, div-one, mul_comm, add-zero, add-suc, add_comm, arith, lit<, pow_mono}
use Rattle.std.proofs.Math.Nat.{div-div-eq-div-mul, div-eq_of_lt}
use Rattle.std.proofs.Math.Dec.{eqb-zero-suc, eqb-suc-zero, eqb-suc-suc}
use Rattle.std.specs.Int.Bits.{and_step, or_step}
use Rattle.std.proofs.lemmas.Nat.{and_shr, or_shr}
use Rattle.std.proofs.lemmas.Bool.{cases_lt, false≢true, and_parts, and_from}
use Rattle.std.proofs.lemmas.Bool.Decides.{nat_tests}
use Rattle.algebra.specs.Masks.{has}

-- two tests that follow from each other are equal
pub iff : (a b : Bool) → (a ≡ true → b ≡ true) → (b ≡ true → a ≡ true) → a ≡ b
iff true b f g = sym (f refl)
iff false true f g = g refl
iff false false f g = refl

-- ---- intersection and union

min_bit : (p q : ℕ) → p < 2 → q < 2 → (min p q == 1) ≡ (p == 1 && q == 1)
min_bit p q hp hq = grind (arith, nat_tests)

max_bit : (p q : ℕ) → p < 2 → q < 2 → (max p q == 1) ≡ (p == 1 || q == 1)
max_bit p q hp hq = grind (arith, nat_tests)

and_low : (x y : ℕ) → bit_and x y % 2 ≡ min (x % 2) (y % 2)
and_low x y = omega (arith, and_step x y)

or_low : (x y : ℕ) → bit_or x y % 2 ≡ max (x % 2) (y % 2)
or_low x y = omega (arith, or_step x y)

pub has_and : (a b k : ℕ) → has (bit_and a b) k ≡ (has a k && has b k)
unfolding has
has_and a b k =
    ap (λ x. eqb (x % 2) 1) (and_shr a b k) ∙ ap (λ x. eqb x 1) (and_low (a / 2 ^ k) (b / 2 ^ k))
    ∙ min_bit (a / 2 ^ k % 2) (b / 2 ^ k % 2) (omega arith) (omega arith)

pub has_or : (a b k : ℕ) → has (bit_or a b) k ≡ (has a k || has b k)
unfolding has
has_or a b k =
    ap (λ x. eqb (x % 2) 1) (or_shr a b k) ∙ ap (λ x. eqb x 1) (or_low (a / 2 ^ k) (b / 2 ^ k))
    ∙ max_bit (a / 2 ^ k % 2) (b / 2 ^ k % 2) (omega arith) (omega arith)

-- a reading of both, and back
pub has_cut : (s u k : ℕ) → has (bit_and s u) k ≡ true → (has s k ≡ true) × (has u k ≡ true)
has_cut s u k h = and_parts (has s k) (has u k) (sym (has_and s u k) ∙ h)

pub cut_has : (s u k : ℕ) → has s k ≡ true → has u k ≡ true → has (bit_and s u) k ≡ true
cut_has s u k i j = has_and s u k ∙ and_from (has s k) (has u k) i j

-- ---- masks of no reading and of one

-- one reading less, of half the mask
pub has_half : (m k : ℕ) → has (m / 2) k ≡ has m (suc k)
unfolding has
has_half m k =
    ap (λ x. eqb (x % 2) 1) (div-div-eq-div-mul m 2 (2 ^ k) ∙ ap (λ x. m / x) (mul_comm 2 (2 ^ k) ∙ sym (pow-suc 2 k)))

pub has_low : (m : ℕ) → has m 0 ≡ (m % 2 == 1)
unfolding has
has_low m = rw div-one

pub has_zero : (k : ℕ) → has 0 k ≡ false
has_zero zero = unfold has in refl
has_zero (suc k) = sym (has_half 0 k) ∙ has_zero k

even_pow : (j : ℕ) → 2 ^ suc j % 2 ≡ 0
even_pow j = let e = pow-suc 2 j in omega arith

half_pow : (j : ℕ) → 2 ^ suc j / 2 ≡ 2 ^ j
half_pow j = let e = pow-suc 2 j in omega arith

pub has_one : (j k : ℕ) → has (2 ^ j) k ≡ (j == k)
has_one zero zero = unfold has in refl
has_one zero (suc k) = sym (has_half 1 k) ∙ has_zero k ∙ sym (eqb-zero-suc k)
has_one (suc j) zero = has_low (2 ^ suc j) ∙ ap (λ x. eqb x 1) (even_pow j) ∙ sym (eqb-suc-zero j)
has_one (suc j) (suc k) =
    sym (has_half (2 ^ suc j) k) ∙ ap (λ x. has x k) (half_pow j) ∙ has_one j k ∙ sym (eqb-suc-suc j k)

-- ---- masks with the same readings are the same

low_same : (p q : ℕ) → p < 2 → q < 2 → (p == 1) ≡ (q == 1) → p ≡ q
low_same p q hp hq e = grind (arith, nat_tests)

lows : (a b : ℕ) → has a 0 ≡ has b 0 → a % 2 ≡ b % 2
lows a b e = low_same (a % 2) (b % 2) (omega arith) (omega arith) (sym (has_low a) ∙ e ∙ has_low b)

pub half_below : (n a : ℕ) → a < 2 ^ suc n → a / 2 < 2 ^ n
half_below n a h = let e = pow-suc 2 n in omega arith

same_below : (n a b : ℕ) → a < 2 ^ n → b < 2 ^ n → ((k : ℕ) → has a k ≡ has b k) → a ≡ b
same_below zero a b ha hb h = omega arith
same_below (suc n) a b ha hb h =
    let halves : a / 2 ≡ b / 2 =
    same_below n (a / 2) (b / 2) (half_below n a ha) (half_below n b hb)
    (λ k. has_half a k ∙ h (suc k) ∙ sym (has_half b k)) in
    let low : a % 2 ≡ b % 2 = lows a b (h 0) in
    omega arith

below_pow : (n m : ℕ) → n < 2 ^ (n + m)
below_pow zero zero = lit< tt
below_pow (suc n) zero =
    let e = pow-suc 2 n in
    let i : n < 2 ^ n = rw add-zero at (below_pow n zero) in
    rw add-zero (omega arith)
below_pow n (suc m) = let i = below_pow n m in let e = pow-suc 2 (n + m) in rw add-suc (omega arith)

pub same : (a b : ℕ) → ((k : ℕ) → has a k ≡ has b k) → a ≡ b
same a b h = same_below (a + b) a b (below_pow a b) (rw add_comm (below_pow b a)) h

-- ---- a mask below 2 ^ n has no reading from n on

pub has_past : (m n k : ℕ) → m < 2 ^ n → n ≤ k → has m k ≡ false
unfolding has
has_past m n k h l = let p : m < 2 ^ k = omega (arith, pow_mono l) in rw (div-eq_of_lt p)

pub has_below : (m n k : ℕ) → m < 2 ^ n → has m k ≡ true → k < n
has_below m n k h t =
    elim (cases_lt k n) [ inl l ↦ l | inr g ↦ absurd (false≢true (sym (has_past m n k h g) ∙ t)) ]
