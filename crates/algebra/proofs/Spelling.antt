-- Readings as letters: one letter more that is written or read.
use Rattle.std.proofs.Common.{◌≡◌, ℕ, zero, suc, ◌+◌, ◌^◌, ◌<◌, Bool, true, false, cond, eqb, ◌⊎◌, List, [], ◌∷◌, ◌++◌, length, get_or, take, codes, sym, refl, ap, ◌∙◌, subst, inl, inr, append-nil, not-suc-le-zero, add-zero, zero-add, add-one, arith}
use lib.Bits.{bit_or}
use Rattle.std.proofs.lemmas.Bool.{cond_both, eqb-true, eq-eqb, cases_lt, or_cases, or_left, or_right, false≢true}
use Rattle.algebra.specs.Masks.{has}
use Rattle.algebra.specs.Letters.{letters_of, spelling_from, StandsFor, Reads}
use Rattle.algebra.specs.Bits.{has_or, has_one, has_zero}
use Rattle.algebra.specs.Tests.{all, all_at, if_so, so}

ahead : (b : Bool) (x : ℕ) (xs ys : List ℕ) → cond b (x ∷ (xs ++ ys)) (xs ++ ys) ≡ cond b (x ∷ xs) xs ++ ys
ahead true x xs ys = refl
ahead false x xs ys = refl

spelling_more : (k : ℕ) (xs : List ℕ) (i s : ℕ) → i < length xs →
    spelling_from k (take (suc i) xs) s ≡ spelling_from k (take i xs) s ++ cond (has s (k + i)) (get_or xs i 0 ∷ []) []
unfolding spelling_from
spelling_more k [] i s h = absurd (not-suc-le-zero h)
spelling_more k (x ∷ xs) zero s h = rw add-zero
spelling_more k (x ∷ xs) (suc i) s h =
    let l : i < length xs = omega arith in
    let e : suc k + i ≡ k + suc i = omega arith in
    let front = spelling_from (suc k) (take i xs) s in
    ap (λ t. cond (has s k) (x ∷ t) t) (spelling_more (suc k) xs i s l) ∙ ahead (has s k) x front _
    ∙ ap (λ j. cond (has s k) (x ∷ front) front ++ cond (has s j) (get_or xs i 0 ∷ []) []) e

-- the steps of a loop over the letters xs
module _ (xs text : List ℕ) (k s : ℕ) (h : k < length xs) (so_far : text ≡ spelling_from 0 (take k xs) s) where
  pub spelling_took : has s k ≡ true → text ++ (get_or xs k 0 ∷ []) ≡ spelling_from 0 (take (k + 1) xs) s
  spelling_took t =
      ap (λ front. front ++ (get_or xs k 0 ∷ [])) so_far
      ∙ sym (ap (λ i. spelling_from 0 (take i xs) s) (add-one k) ∙ spelling_more 0 xs k s h ∙ rw (zero-add, t))

  pub spelling_left : has s k ≡ false → text ≡ spelling_from 0 (take (k + 1) xs) s
  spelling_left t =
      so_far ∙ sym (append-nil (spelling_from 0 (take k xs) s))
      ∙ sym (ap (λ i. spelling_from 0 (take i xs) s) (add-one k) ∙ spelling_more 0 xs k s h ∙ rw (zero-add, t))

-- ---- what holds of the letters of every code, by one test of each list

module _ (P : List ℕ → Type 0) (test : List ℕ → Bool) (tells : (xs : List ℕ) → test xs ≡ true → P xs) where
  each_code : (code : ℕ) → test (codes "=<>") ≡ true → test (codes "epPmMoOsSdDfF") ≡ true → test (codes "edcotTnN") ≡ true →
      test [] ≡ true → P (letters_of code)
  each_code code t1 t2 t3 t0 =
      cond_both (eqb code 1) _ _ P (λ _. tells _ t1)
      (λ _. cond_both (eqb code 2) _ _ P (λ _. tells _ t2)
      (λ _. cond_both (eqb code 3) _ _ P (λ _. tells _ t3) (λ _. tells _ t0)))

abbrev Distinct : List ℕ → Type 0
Distinct xs = (i j : ℕ) → i < length xs → j < length xs → get_or xs i 0 ≡ get_or xs j 0 → i ≡ j

distinct : List ℕ → Bool
distinct xs = all (length xs) (λ i. all (length xs) (λ j. if_so (eqb (get_or xs i 0) (get_or xs j 0)) (eqb i j)))

letters_distinct : (code : ℕ) → Distinct (letters_of code)
unfolding all distinct
letters_distinct code =
    each_code Distinct distinct
    (λ xs t i j h l e. eqb-true i j (so _ _ (all_at (length xs) _ (all_at (length xs) _ t i h) j l) (eq-eqb _ _ e)))
    code refl refl refl refl

-- ---- one letter more is read

pub reads_none : (code : ℕ) (text : List ℕ) → Reads code text 0 0
reads_none code text = record {
  letter = λ i h. absurd (not-suc-le-zero h);
  has_read = λ k h. absurd (false≢true (sym (has_zero k) ∙ h));
  read_has = λ i k h s. absurd (not-suc-le-zero h);
}

module _ (code : ℕ) (text : List ℕ) (n m k : ℕ) (r : Reads code text n m) (s : StandsFor code (get_or text n 0) k) where
  last_or : (i : ℕ) → i < n + 1 → (i < n) ⊎ (n ≡ i)
  last_or i h = elim (cases_lt i n) [ inl l ↦ inl l | inr g ↦ inr (omega arith) ]

  one_reading : (j : ℕ) → StandsFor code (get_or text n 0) j → k ≡ j
  one_reading j t = letters_distinct code k j s.0 t.0 (s.1 ∙ sym t.1)

  pub reads_more : Reads code text (n + 1) (bit_or m (2 ^ k))
  reads_more = record {
    letter = λ i h. elim (last_or i h) [
      | inl l ↦ r.letter i l
      | inr e ↦ subst (λ q. (j : ℕ) × StandsFor code (get_or text q 0) j) e (k, s)
    ];
    has_read = λ j h. elim (or_cases (has m j) _ (sym (has_or m (2 ^ k) j) ∙ h)) [
      | inl a ↦ let w = r.has_read j a in (w.0, omega arith, w.2)
      | inr b ↦ (n, omega arith, subst (StandsFor code (get_or text n 0)) (eqb-true k j (sym (has_one k j) ∙ b)) s)
    ];
    read_has = λ i j h t.
        has_or m (2 ^ k) j
        ∙ elim (last_or i h) [
          | inl l ↦ or_left (has m j) _ (r.read_has i j l t)
          | inr e ↦
              or_right (has m j) _
              (has_one k j ∙ eq-eqb k j (one_reading j (subst (λ q. StandsFor code (get_or text q 0) j) (sym e) t)))
        ];
  }
