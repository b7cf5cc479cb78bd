-- Rows for pairs: there is one such list, it is short, and a loop over all pairs collects it.
use Rattle.std.proofs.Common.{◌≡◌, ℕ, ◌+◌, ◌*◌, ◌<◌, ◌≤◌, ◌⊎◌, List, [], ◌∷◌, ◌++◌, length, sym, refl, ◌∙◌, inl, inr, arith}
use mathlib.Core.List.Memᴰ
use mathlib.Core.List.{Memᴰ}
use Rattle.std.proofs.lemmas.Bool.{cases_eq}
use Rattle.programme.specs.Pairs.{Before, Rising, About, RowsOf, RowsTo}

one_way : {i j a b : ℕ} → Before i j a b → ¬ Before a b i j
one_way (inl x) (inl y) = omega arith
one_way (inl x) (inr (e, y)) = omega arith
one_way (inr (e, x)) (inl y) = omega arith
one_way (inr (e, x)) (inr (f, y)) = omega arith

later : {i j a b : ℕ} → Before a b i j → Before a b i (j + 1)
later (inl x) = inl x
later (inr (e, x)) = inr (e, omega arith)

-- a pair before the next one is before this one or is this one
before_next : {i j a b : ℕ} → Before a b i (j + 1) → Before a b i j ⊎ ((i ≡ a) × (j ≡ b))
before_next (inl x) = inl (inl x)
before_next {j = j} {b = b} (inr (e, x)) =
    elim (cases_eq j b) [ inl f ↦ inr (sym e, f) | inr n ↦ inl (inr (e, omega arith)) ]

-- what holds of the new row and of the old ones holds of all
each_row : {X : Type 0} (rows : List X) (new : X) (P : X → Type 0) → P new → ((x : X) → Memᴰ x rows → P x) →
    (x : X) → Memᴰ x (rows ++ (new ∷ [])) → P x
each_row rows new P p f x a =
    elim (Memᴰ.append_cases rows a) [ inl y ↦ f x y | inr y ↦ rw (Memᴰ.eq_of_singleton y) p ]

module _ {X : Type 0} (first second : X → ℕ) where
  -- ---- one list

  -- the first of a rising list is none of the rest
  rest_of : {x : X} {rows : List X} → Rising first second (x ∷ rows) → (y : X) → Memᴰ y rows → ¬ (y ≡ x)
  rest_of {x} p y a e = let b = p.0 x (Memᴰ.cast (sym e) a) in one_way b b

  -- rising lists with the same members are equal
  rising_one : (these those : List X) → Rising first second these → Rising first second those →
      ((x : X) → Memᴰ x these → Memᴰ x those) → ((x : X) → Memᴰ x those → Memᴰ x these) → these ≡ those
  rising_one [] [] p q f g = refl
  rising_one [] (y ∷ ys) p q f g = absurd (Memᴰ.not-nil (g y (Memᴰ.head refl)))
  rising_one (x ∷ xs) [] p q f g = absurd (Memᴰ.not-nil (f x (Memᴰ.head refl)))
  rising_one (x ∷ xs) (y ∷ ys) p q f g = rw (same, rising_one xs ys p.1 q.1 there back)
    where
      same : x ≡ y
      same = elim (Memᴰ.cases_cons (f x (Memᴰ.head refl))) [
        | inl e ↦ e
        | inr a ↦ elim (Memᴰ.cases_cons (g y (Memᴰ.head refl))) [
          | inl e ↦ sym e
          | inr b ↦ absurd (one_way (p.0 y b) (q.0 x a))
        ]
      ]

      there : (z : X) → Memᴰ z xs → Memᴰ z ys
      there z a = elim (Memᴰ.cases_cons (f z (Memᴰ.tail a))) [
        | inl e ↦ absurd (rest_of p z a (e ∙ sym same))
        | inr b ↦ b
      ]

      back : (z : X) → Memᴰ z ys → Memᴰ z xs
      back z a = elim (Memᴰ.cases_cons (g z (Memᴰ.tail a))) [
        | inl e ↦ absurd (rest_of q z a (e ∙ same))
        | inr b ↦ b
      ]

  -- ---- few rows

  -- rising pairs of numbers below 48, from the pair that is numbered k
  few_from : (rows : List X) → Rising first second rows → ((x : X) → Memᴰ x rows → (first x < 48) × (second x < 48)) →
      (k : ℕ) → k ≤ 2304 → ((x : X) → Memᴰ x rows → k ≤ first x * 48 + second x) → length rows + k ≤ 2304
  few_from [] p low k h f = omega arith
  few_from (x ∷ rows) p low k h f =
      let from = f x (Memᴰ.head refl) in
      let d = low x (Memᴰ.head refl) in
      let next = first x * 48 + second x + 1 in
      let rest = few_from rows p.1 (λ y a. low y (Memᴰ.tail a)) next (omega arith) above in
      omega arith
    where
      above : (y : X) → Memᴰ y rows → first x * 48 + second x + 1 ≤ first y * 48 + second y
      above y a =
          let d = low x (Memᴰ.head refl) in
          elim (p.0 y a) [ inl h ↦ omega arith | inr (e, h) ↦ omega arith ]

  pub rows_few : (rows : List X) → Rising first second rows → ((x : X) → Memᴰ x rows → (first x < 48) × (second x < 48)) →
      length rows ≤ 2304
  rows_few rows p low = omega (arith, few_from rows p low 0 (omega arith) (λ x a. omega arith))

  rising_push : (rows : List X) (y : X) → Rising first second rows →
      ((x : X) → Memᴰ x rows → Before (first x) (second x) (first y) (second y)) → Rising first second (rows ++ (y ∷ []))
  rising_push [] y p f = (λ x a. absurd (Memᴰ.not-nil a), tt)
  rising_push (x ∷ rows) y p f = (
    each_row rows y (λ z. Before (first x) (second x) (first z) (second z)) (f x (Memᴰ.head refl)) p.0,
    rising_push rows y p.1 (λ z a. f z (Memᴰ.tail a)),
  )

  module _ (Is : X → Type 0) (P : ℕ → ℕ → Type 0) where
    -- a row says of a pair P, the smaller number first, all that can be said of it
    pub rows_one : ((x : X) → Is x → first x < second x) → ((x : X) → Is x → P (first x) (second x)) →
        ((x y : X) → Is x → Is y → About first second y (first x) (second x) → x ≡ y) → (these those : List X) →
        RowsOf first second Is P these → RowsOf first second Is P those → these ≡ those
    rows_one smaller is one these those p q = rising_one these those p.rising q.rising (same p q) (same q p)
      where
        same : {xs ys : List X} → RowsOf first second Is P xs → RowsOf first second Is P ys →
            (x : X) → Memᴰ x xs → Memᴰ x ys
        same p q x a =
            let h = p.each x a in
            let (y, b, e) = q.all (first x) (second x) (smaller x h) (is x h) in
            Memᴰ.cast (one x y h (q.each y b) e) b

    -- ---- the list, pair by pair

    pub rows_none : (j : ℕ) → j ≤ 1 → RowsTo first second Is P 0 j []
    rows_none j h = record {
      rising = tt;
      each = λ x a. absurd (Memᴰ.not-nil a);
      earlier = λ x a. absurd (Memᴰ.not-nil a);
      all = λ a b l k x. absurd (elim k [ inl y ↦ omega arith | inr (e, y) ↦ omega arith ]);
    }

    module _ {i j : ℕ} {rows : List X} (w : RowsTo first second Is P i j rows) where
      -- with a row for the pair
      pub rows_more : (new : X) → About first second new i j → Is new → RowsTo first second Is P i (j + 1) (rows ++ (new ∷ []))
      rows_more new (d, e) is = record {
        rising = rising_push rows new w.rising (λ x a. rw (d, e) (w.earlier x a));
        each = each_row rows new Is is w.each;
        earlier =
            each_row rows new (λ x. Before (first x) (second x) i (j + 1)) (inr (d, omega arith)) (λ x a. later (w.earlier x a));
        all = λ a b y k z. elim (before_next k) [
          | inl k ↦ let (x, c, f) = w.all a b y k z in (x, Memᴰ.append_left (new ∷ []) c, f)
          | inr f ↦ (new, Memᴰ.append_right rows (Memᴰ.head refl), (d ∙ f.0, e ∙ f.1))
        ];
      }

      -- the pair has none
      pub rows_past : ¬ P i j → RowsTo first second Is P i (j + 1) rows
      rows_past n = record {
        rising = w.rising;
        each = w.each;
        earlier = λ x a. later (w.earlier x a);
        all = λ a b y k z. elim (before_next k) [ inl k ↦ w.all a b y k z | inr e ↦ absurd (n (rw (e.0, e.1) z)) ];
      }

      module _ (n : ℕ) (within : (a b : ℕ) → P a b → (a < n) × (b < n)) where
        -- j is past the last entry: the next pair is that of i + 1 and i + 2
        pub rows_row : n ≤ j → RowsTo first second Is P (i + 1) (i + 2) rows
        rows_row h = record {
          rising = w.rising;
          each = w.each;
          earlier = λ x a. elim (w.earlier x a) [ inl y ↦ inl (omega arith) | inr (e, y) ↦ inl (omega arith) ];
          all = λ a b y k z. w.all a b y (in_row a b y k (within a b z).1) z;
        }
          where
            in_row : (a b : ℕ) → a < b → Before a b (i + 1) (i + 2) → b < n → Before a b i j
            in_row a b y k q = elim (cases_eq a i) [
              | inl e ↦ inr (e, omega arith)
              | inr d ↦ elim k [ inl x ↦ inl (omega arith) | inr (e, x) ↦ absurd (omega arith) ]
            ]

        -- i is past the last entry
        pub rows_all : n ≤ i → RowsOf first second Is P rows
        rows_all h = record {
          rising = w.rising;
          each = w.each;
          all = λ a b y z. w.all a b y (inl (omega (arith, (within a b z).0))) z;
        }
