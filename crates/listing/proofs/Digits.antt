-- The formatter's hexadecimal digits are those of a listing.
use Rattle.std.proofs.Common.{◌≡◌, ℕ, zero, suc, ◌+◌, ◌-◌, ◌/◌, ◌%◌, ◌^◌, ◌<◌, Bool, true, false, cond, eqb, List, [], ◌∷◌, ◌++◌, length, sym, refl, ap, ◌∙◌, append-nil, arith}
use Rattle.std.proofs.lemmas.Bool.{eqb-true, eqb-false}
use Rattle.std.specs.Fmt.{digits, digits_onto, digit_glyph, padded_integral, format_spec, char_count}
use lib.ListN.{replicate}
use Rattle.listing.specs.Listed.{hexadecimal}

-- the last k digits of n, in front of others
last_digits : ℕ → ℕ → List ℕ → List ℕ
last_digits zero n ds = ds
last_digits (suc k) n ds = last_digits k (n / 16) (digit_glyph true (n % 16) ∷ ds)

-- as many zeros in front as make it k digits
filled : ℕ → List ℕ → List ℕ
filled k ds = replicate (k - length ds) 48 ++ ds

zeros : (k : ℕ) (ds : List ℕ) → last_digits k 0 ds ≡ replicate k 48 ++ ds
unfolding last_digits
zeros zero ds = refl
zeros (suc k) ds = zeros k (48 ∷ ds) ∙ more k
  where
    more : (k : ℕ) → replicate k 48 ++ (48 ∷ ds) ≡ 48 ∷ (replicate k 48 ++ ds)
    more zero = refl
    more (suc k) = ap (λ (z : List ℕ). 48 ∷ z) (more k)

-- the formatter's digits of a number that has at most k + 1, with zeros in front, in front of others
filled_digits : (k fuel n : ℕ) (ds : List ℕ) → k < fuel → n < 16 ^ suc k →
    filled (suc k + length ds) (digits_onto fuel 16 true n ds) ≡ last_digits (suc k) n ds
unfolding last_digits filled
filled_digits k zero n ds le h = absurd (omega arith)
filled_digits zero (suc fuel) n ds le h = by (eqb (n / 16) 0) refl
  where
    digit : ℕ
    digit = digit_glyph true (n % 16)

    by : (b : Bool) → eqb (n / 16) 0 ≡ b →
        filled (1 + length ds) (cond b (digit ∷ ds) (digits_onto fuel 16 true (n / 16) (digit ∷ ds))) ≡ digit ∷ ds
    by true e = let left : 1 + length ds - suc (length ds) ≡ 0 = omega arith in rw left refl
    by false e = absurd (eqb-false (n / 16) 0 e (omega arith))
filled_digits (suc k) (suc fuel) n ds le h =
    by (eqb (n / 16) 0) refl (filled_digits k fuel (n / 16) (digit_glyph true (n % 16) ∷ ds) (omega arith) (omega arith))
  where
    digit : ℕ
    digit = digit_glyph true (n % 16)

    by : (b : Bool) → eqb (n / 16) 0 ≡ b →
        filled (suc k + length (digit ∷ ds)) (digits_onto fuel 16 true (n / 16) (digit ∷ ds)) ≡ last_digits (suc k) (n / 16) (digit ∷ ds) →
        filled (suc (suc k) + length ds) (cond b (digit ∷ ds) (digits_onto fuel 16 true (n / 16) (digit ∷ ds)))
        ≡ last_digits (suc k) (n / 16) (digit ∷ ds)
    by true e more =
        let none = eqb-true (n / 16) 0 e in
        let left : suc (suc k) + length ds - suc (length ds) ≡ suc k = omega arith in
        rw (left, none) (sym (zeros (suc k) (digit ∷ ds)))
    by false e more = let all : suc (suc k) + length ds ≡ suc k + suc (length ds) = omega arith in rw all more

-- a width of 8 adds zeros
padded : (ds : List ℕ) → padded_integral (format_spec 32 0 4 8 (2 ^ 64 - 1)) false [] ds ≡ filled 8 ds
unfolding padded_integral char_count filled
padded ds =
    let short : 8 - length ds - 0 - 0 ≡ 8 - length ds = omega arith in
    rw (append-nil, short) refl

-- the formatter puts the digits in front of nothing
onto : (base : ℕ) (upper : Bool) (n : ℕ) → digits base upper n ≡ digits_onto 64 base upper n []
unfolding digits
onto base upper n = refl

-- the digits of the four bytes
eight : (n : ℕ) → n < 2 ^ 32 → last_digits 8 n [] ≡ hexadecimal n
unfolding last_digits
eight n h =
    let d0 : n % 16 ≡ n % 256 % 16 = omega arith in
    let d1 : n / 16 % 16 ≡ n % 256 / 16 = omega arith in
    let d2 : n / 16 / 16 % 16 ≡ n / 256 % 256 % 16 = omega arith in
    let d3 : n / 16 / 16 / 16 % 16 ≡ n / 256 % 256 / 16 = omega arith in
    let d4 : n / 16 / 16 / 16 / 16 % 16 ≡ n / 65536 % 256 % 16 = omega arith in
    let d5 : n / 16 / 16 / 16 / 16 / 16 % 16 ≡ n / 65536 % 256 / 16 = omega arith in
    let d6 : n / 16 / 16 / 16 / 16 / 16 / 16 % 16 ≡ n / 16777216 % 256 % 16 = omega arith in
    let d7 : n / 16 / 16 / 16 / 16 / 16 / 16 / 16 % 16 ≡ n / 16777216 % 256 / 16 = omega arith in
    rw (d7, d6, d5, d4, d3, d2, d1, d0) refl

-- what `{:08X}` writes
abbrev pub eight_digits : ℕ → List ℕ
eight_digits n = padded_integral (format_spec 32 0 4 8 (2 ^ 64 - 1)) false [] (digits 16 true n)

pub hex_word : (n : ℕ) → n < 2 ^ 32 → eight_digits n ≡ hexadecimal n
hex_word n h =
    padded (digits 16 true n) ∙ ap (filled 8) (onto 16 true n) ∙ filled_digits 7 64 n [] (omega arith) (omega arith) ∙ eight n h
