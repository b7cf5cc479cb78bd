-- The lowest member of a set of bits, and the set without it: the steps of a loop over the members.
use Rattle.std.proofs.Common.{◌≡◌, ℕ, zero, suc, ◌-◌, ◌*◌, ◌/◌, ◌%◌, ◌^◌, ◌<◌, ◌≤◌, ◌≢◌, true, false, not, ◌&&◌, ◌||◌, eqb, ◌⊎◌, sym, ap, ◌∙◌, subst, ap₂, inl, inr, arith}
use Rattle.std.proofs.Math.Bool.{and-true, and-false, or_assoc}
use lib.Dec.{eqb-suc-zero, eqb-suc-suc}
use lib.Bits.{bit_and, bit_or, and_step, and_self, and_le_r, or_zero_r}
use lib.Count.{count_trailing_zeros}
use Rattle.std.proofs.lemmas.Bool.{cases_eq, both_ways, or_cases, or_left, or_right, and_from, and_parts, not_from_false, ne_eqb}
use Rattle.algebra.specs.Masks.{has, union}
use Rattle.algebra.specs.Members.{Lowest}
use Rattle.algebra.specs.Bits.{iff, has_half, has_low, has_or, has_cut, cut_has, has_below, half_below, same}
use Rattle.algebra.specs.Unions.{union_from, from_union, union_none}

-- the set without its lowest member
abbrev pub others : ℕ → ℕ
others s = bit_and s (s - 1)

pub parity : (n : ℕ) → (n % 2 ≡ 0) ⊎ (n % 2 ≡ 1)
parity n = grind arith

pub lowest_has : (k n : ℕ) → n ≢ 0 → n < 2 ^ k → has n (count_trailing_zeros k n) ≡ true
unfolding count_trailing_zeros
lowest_has zero n z h = absurd (z (omega arith))
lowest_has (suc k) n z h =
    elim (parity n) [
      | inl e ↦
          rw e (sym (has_half n (count_trailing_zeros k (n / 2))) ∙ lowest_has k (n / 2) (λ q. z (omega arith)) (half_below k n h))
      | inr e ↦ rw e (has_low n ∙ ap (λ x. eqb x 1) e)
    ]

others_odd : (n : ℕ) → n % 2 ≡ 1 → others n ≡ n / 2 * 2
others_odd n e =
    let h : (n - 1) / 2 ≡ n / 2 = omega arith in
    let l : (n - 1) % 2 ≡ 0 = omega arith in
    and_step n (n - 1) ∙ rw (h, l, e) (rw (and_self (n / 2)) (omega arith))

others_even : (n : ℕ) → n ≢ 0 → n % 2 ≡ 0 → others n ≡ others (n / 2) * 2
others_even n z e =
    let h : (n - 1) / 2 ≡ n / 2 - 1 = omega arith in
    let l : (n - 1) % 2 ≡ 1 = omega arith in
    and_step n (n - 1) ∙ rw (h, l, e) (omega arith)

has_double : (h k : ℕ) → has (h * 2) (suc k) ≡ has h k
has_double h k = sym (has_half (h * 2) k) ∙ ap (λ x. has x k) (omega arith)

has_double_low : (h : ℕ) → has (h * 2) 0 ≡ false
has_double_low h = let e : h * 2 % 2 ≡ 0 = omega arith in has_low (h * 2) ∙ ap (λ x. eqb x 1) e

-- the others are all readings but the lowest
pub has_others : (k n x : ℕ) → n ≢ 0 → n < 2 ^ k → has (others n) x ≡ (has n x && not (eqb x (count_trailing_zeros k n)))
unfolding count_trailing_zeros
has_others zero n x z h = absurd (z (omega arith))
has_others (suc k) n zero z h =
    elim (parity n) [
      | inl e ↦ rw e (
          ap (λ y. has y 0) (others_even n z e) ∙ has_double_low (others (n / 2))
          ∙ sym (ap (λ b. b && not (eqb 0 (suc (count_trailing_zeros k (n / 2))))) (has_low n ∙ ap (λ y. eqb y 1) e)))
      | inr e ↦ rw e (ap (λ y. has y 0) (others_odd n e) ∙ has_double_low (n / 2) ∙ sym (and-false (has n 0)))
    ]
has_others (suc k) n (suc x) z h =
    elim (parity n) [
      | inl e ↦ rw e (
          ap (λ y. has y (suc x)) (others_even n z e) ∙ has_double (others (n / 2)) x
          ∙ has_others k (n / 2) x (λ q. z (omega arith)) (half_below k n h)
          ∙ ap₂ (λ p q. p && not q) (has_half n x) (sym (eqb-suc-suc x (count_trailing_zeros k (n / 2)))))
      | inr e ↦ rw e (
          ap (λ y. has y (suc x)) (others_odd n e) ∙ has_double (n / 2) x ∙ has_half n x
          ∙ sym (and-true (has n (suc x))) ∙ ap (λ q. has n (suc x) && not q) (sym (eqb-suc-zero x)))
    ]

-- no member is lower than the lowest
pub lowest_least : (k n y : ℕ) → has n y ≡ true → count_trailing_zeros k n ≤ y
unfolding count_trailing_zeros
lowest_least zero n y h = omega arith
lowest_least (suc k) n zero h =
    elim (parity n) [
      | inl e ↦ absurd (both_ways (has n 0) (has_low n ∙ ap (λ y. eqb y 1) e) h)
      | inr e ↦ rw e (omega arith)
    ]
lowest_least (suc k) n (suc y) h =
    elim (parity n) [
      | inl e ↦ rw e (let l = lowest_least k (n / 2) y (has_half n y ∙ h) in omega arith)
      | inr e ↦ rw e (omega arith)
    ]

pub lowest_of : (s : ℕ) → s ≢ 0 → s < 2 ^ 64 → Lowest s (count_trailing_zeros 64 s) (bit_and s (s - 1))
lowest_of s z f = record {
  there = lowest_has 64 s z f;
  least = lowest_least 64 s;
  others = λ j. has_others 64 s j z f;
  less = let l = and_le_r s (s - 1) in omega arith;
}

-- ---- a loop over the readings of s: its index, its step and its end

pub visited_below : (n s k t : ℕ) → Lowest s k t → s < 2 ^ n → k < n
visited_below n s k t l h = has_below s n k h l.there

-- the union over s is that over the lowest reading and that over the others
pub union_visit : (s k t : ℕ) (f : ℕ → ℕ) → Lowest s k t → s < 2 ^ 32 → union s f 32 ≡ bit_or (f k) (union t f 32)
union_visit s k t f l h = same _ _ (λ c. iff _ _ (there c) (back c))
  where
    there : (c : ℕ) → has (union s f 32) c ≡ true → has (bit_or (f k) (union t f 32)) c ≡ true
    there c q =
        let r = union_from s f 32 c q in
        has_or (f k) (union t f 32) c
        ∙ elim (cases_eq r.at k) [
          | inl e ↦ or_left _ (has (union t f 32) c) (subst (λ k. has (f k) c ≡ true) e r.gives)
          | inr e ↦
              or_right (has (f k) c) _
              (from_union t f 32 c r.at r.low
              (l.others r.at ∙ and_from (has s r.at) _ r.in_set (not_from_false _ (ne_eqb r.at k e)))
              r.gives)
        ]

    back : (c : ℕ) → has (bit_or (f k) (union t f 32)) c ≡ true → has (union s f 32) c ≡ true
    back c q =
        elim (or_cases (has (f k) c) _ (sym (has_or (f k) (union t f 32) c) ∙ q)) [
          | inl a ↦ from_union s f 32 c k (has_below s 32 k h l.there) l.there a
          | inr b ↦
              let r = union_from t f 32 c b in
              from_union s f 32 c r.at r.low (and_parts (has s r.at) _ (sym (l.others r.at) ∙ r.in_set)).0 r.gives
        ]

union_assoc : (a b c : ℕ) → bit_or (bit_or a b) c ≡ bit_or a (bit_or b c)
union_assoc a b c =
    same _ _ (λ k.
    has_or (bit_or a b) c k ∙ ap (λ x. x || has c k) (has_or a b k) ∙ or_assoc (has a k) (has b k) (has c k)
    ∙ sym (has_or a (bit_or b c) k ∙ ap (λ x. has a k || x) (has_or b c k)))

pub union_step : (s k t : ℕ) (f : ℕ → ℕ) (sum x all : ℕ) → Lowest s k t → s < 2 ^ 32 → x ≡ f k →
    bit_or sum (union s f 32) ≡ all → bit_or (bit_or sum x) (union t f 32) ≡ all
union_step s k t f sum x all l h g e =
    ap (λ y. bit_or (bit_or sum y) (union t f 32)) g ∙ union_assoc sum (f k) (union t f 32)
    ∙ ap (bit_or sum) (sym (union_visit s k t f l h)) ∙ e

pub union_end : (s : ℕ) (f : ℕ → ℕ) (sum all : ℕ) → s ≡ 0 → bit_or sum (union s f 32) ≡ all → sum ≡ all
union_end s f sum all z e =
    sym (or_zero_r sum) ∙ ap (bit_or sum) (sym (ap (λ x. union x f 32) z ∙ union_none f 32)) ∙ e

-- what lies in a part lies in all
pub part_all : (t part more : ℕ) → bit_and t part ≡ t → t ≡ bit_and t (bit_or part more)
part_all t part more e =
    same _ _ (λ k. iff _ _
    (λ h. cut_has t (bit_or part more) k h
    (has_or part more k ∙ or_left (has part k) (has more k) (has_cut t part k (ap (λ x. has x k) e ∙ h)).1))
    (λ h. (has_cut t (bit_or part more) k h).0))
