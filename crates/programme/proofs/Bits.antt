-- Bits of a number: the complement, the low bits, and what is left without the lowest.
use Rattle.std.proofs.Common.{◌≡◌, ℕ, zero, suc, ◌-◌, ◌/◌, ◌%◌, ◌^◌, ◌<◌, true, false, not, eqb, ◌≢◌, ◌⊎◌, sym, ap, ◌∙◌, inl, inr, pow-suc, arith}
use lib.Bits.{bit_and}
use Rattle.std.proofs.lemmas.Nat.{pow_pos}
use Rattle.std.proofs.lemmas.Bool.{cases_eq, cases_Bool, both_ways, and_parts, and_from, eq-eqb, ne_eqb, not-true, not_from_false}
use Rattle.algebra.specs.Masks.{has}
use Rattle.algebra.specs.Bits.{has_half, has_low, has_zero, half_below, has_below, has_cut, cut_has}
use Rattle.algebra.specs.Members.{Lowest}
use Rattle.algebra.proofs.Lowest.{parity}

-- the complement of x in n bits has what x has not
pub has_not : (n x k : ℕ) → x < 2 ^ n → k < n → has (2 ^ n - 1 - x) k ≡ not (has x k)
has_not zero x k h l = absurd (omega arith)
has_not (suc n) x zero h l =
    let e = pow-suc 2 n in
    let p = pow_pos n in
    elim (parity x) [
      | inl z ↦
          let w : (2 ^ suc n - 1 - x) % 2 ≡ 1 = omega arith in
          has_low (2 ^ suc n - 1 - x) ∙ ap (λ y. eqb y 1) w ∙ sym (ap not (has_low x ∙ ap (λ y. eqb y 1) z))
      | inr z ↦
          let w : (2 ^ suc n - 1 - x) % 2 ≡ 0 = omega arith in
          has_low (2 ^ suc n - 1 - x) ∙ ap (λ y. eqb y 1) w ∙ sym (ap not (has_low x ∙ ap (λ y. eqb y 1) z))
    ]
has_not (suc n) x (suc k) h l =
    let e = pow-suc 2 n in
    let w : (2 ^ suc n - 1 - x) / 2 ≡ 2 ^ n - 1 - x / 2 = omega arith in
    sym (has_half (2 ^ suc n - 1 - x) k) ∙ ap (λ y. has y k) w ∙ has_not n (x / 2) k (half_below n x h) (omega arith)
    ∙ ap not (has_half x k)

-- the n low bits
pub has_ones : (n k : ℕ) → k < n → has (2 ^ n - 1) k ≡ true
has_ones n k h =
    let e : 2 ^ n - 1 - 0 ≡ 2 ^ n - 1 = omega arith in
    ap (λ y. has y k) (sym e) ∙ has_not n 0 k (pow_pos n) h ∙ ap not (has_zero k)

pub low_bits : (n row one x : ℕ) → one ≡ 2 ^ n → has (bit_and row (one - 1)) x ≡ true → (x < n) × (has row x ≡ true)
low_bits n row one x e h =
    let p = has_cut row (one - 1) x h in
    let l = pow_pos n in
    (has_below (one - 1) n x (omega arith) p.1, p.0)

pub from_low_bits : (n row one x : ℕ) → one ≡ 2 ^ n → x < n → has row x ≡ true → has (bit_and row (one - 1)) x ≡ true
from_low_bits n row one x e l h = cut_has row (one - 1) x h (rw e (has_ones n x l))

-- ---- what is left of s without its lowest member k

module _ {s k t : ℕ} (low : Lowest s k t) where
  pub left_within : (x : ℕ) → has t x ≡ true → has s x ≡ true
  left_within x h = (and_parts (has s x) _ (sym (low.others x) ∙ h)).0

  pub left_not_lowest : (x : ℕ) → has t x ≡ true → x ≢ k
  left_not_lowest x h e =
      both_ways (eqb x k) (not-true _ (and_parts (has s x) _ (sym (low.others x) ∙ h)).1) (eq-eqb x k e)

  pub lowest_or_left : (x : ℕ) → has s x ≡ true → (x ≡ k) ⊎ (has t x ≡ true)
  lowest_or_left x h =
      elim (cases_eq x k) [
        | inl e ↦ inl e
        | inr n ↦ inr (low.others x ∙ and_from (has s x) _ h (not_from_false _ (ne_eqb x k n)))
      ]

  pub lowest_or_not : (x : ℕ) → has t x ≡ false → (x ≡ k) ⊎ (has s x ≡ false)
  lowest_or_not x h =
      elim (cases_Bool (has s x)) [
        | inl e ↦ elim (lowest_or_left x e) [ inl q ↦ inl q | inr q ↦ absurd (both_ways (has t x) h q) ]
        | inr e ↦ inr e
      ]
