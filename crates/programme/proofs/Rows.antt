-- Rows of bits: a bit set in one row, the lowest bit of a row taken out, and the rows added up.
use Rattle.std.proofs.Common.{◌≡◌, ℕ, zero, suc, ◌*◌, ◌^◌, ◌<◌, ◌≤◌, true, false, ◌≢◌, ◌⊎◌, List, length, get_or, set, sym, refl, ap, ◌∙◌, subst, inl, inr, arith, get_or-set_other, get_or-set_same}
use lib.Bits.{bit_or}
use Rattle.std.proofs.lemmas.Bool.{cases_eq, or_cases, or_left, or_right, or_from, eq-eqb, eqb-true}
use Rattle.algebra.specs.Masks.{has}
use Rattle.algebra.specs.Bits.{has_or, has_one}
use Rattle.algebra.specs.Members.{Lowest}
use Rattle.programme.specs.Networks.{bit_at}
use Rattle.programme.specs.Steps.{pending_at, Pended, Took, tally, load}
use Rattle.programme.specs.declared.linkage.Network.{Network}
use Rattle.programme.proofs.Bits.{left_within, lowest_or_left}

-- ---- a bit set in one of the rows

abbrev pub marked : List ℕ → ℕ → ℕ → List ℕ
marked rows i j = set rows i (bit_or (get_or rows i 0) (2 ^ j))

module _ (rows : List ℕ) (i j : ℕ) (l : i < length rows) where
  row_new : get_or (marked rows i j) i 0 ≡ bit_or (get_or rows i 0) (2 ^ j)
  row_new = get_or-set_same rows i (bit_or (get_or rows i 0) (2 ^ j)) 0 l

  row_old : (x : ℕ) → x ≢ i → get_or (marked rows i j) x 0 ≡ get_or rows x 0
  row_old x n = get_or-set_other rows i x (bit_or (get_or rows i 0) (2 ^ j)) 0 n

  pub mark_there : bit_at (marked rows i j) i j ≡ true
  mark_there =
      ap (λ x. has x j) row_new ∙ has_or (get_or rows i 0) (2 ^ j) j
      ∙ or_right (has (get_or rows i 0) j) (has (2 ^ j) j) (has_one j j ∙ eq-eqb j j refl)

  pub mark_more : (x y : ℕ) → bit_at rows x y ≡ true → bit_at (marked rows i j) x y ≡ true
  mark_more x y h =
      elim (cases_eq x i) [
        | inl e ↦ rw e (ap (λ z. has z y) row_new ∙ has_or (get_or rows i 0) (2 ^ j) y
            ∙ or_left (has (get_or rows i 0) y) (has (2 ^ j) y) (rw e at h))
        | inr n ↦ ap (λ z. has z y) (row_old x n) ∙ h
      ]

  pub mark_only : (x y : ℕ) → bit_at (marked rows i j) x y ≡ true → (bit_at rows x y ≡ true) ⊎ ((x ≡ i) × (y ≡ j))
  mark_only x y h =
      elim (cases_eq x i) [
        | inl e ↦
            let g : has (bit_or (get_or rows i 0) (2 ^ j)) y ≡ true = sym (ap (λ z. has z y) row_new) ∙ rw e at h in
            elim (or_cases (has (get_or rows i 0) y) (has (2 ^ j) y) (sym (has_or (get_or rows i 0) (2 ^ j) y) ∙ g)) [
              | inl a ↦ inl (rw e a)
              | inr b ↦ inr (e, sym (eqb-true j y (sym (has_one j y) ∙ b)))
            ]
        | inr n ↦ inl (sym (ap (λ z. has z y) (row_old x n)) ∙ h)
      ]

-- ---- pending, in the one row or the other

pub pending_cases : (w : Network) (x y : ℕ) → pending_at w x y ≡ true →
    (bit_at w.pending x y ≡ true) ⊎ (bit_at w.pending y x ≡ true)
unfolding pending_at
pending_cases w x y h = or_cases (bit_at w.pending x y) (bit_at w.pending y x) h

pub pending_row : (w : Network) (x y : ℕ) → bit_at w.pending x y ≡ true → pending_at w x y ≡ true
unfolding pending_at
pending_row w x y h = or_left (bit_at w.pending x y) (bit_at w.pending y x) h

pub pending_column : (w : Network) (x y : ℕ) → bit_at w.pending y x ≡ true → pending_at w x y ≡ true
unfolding pending_at
pending_column w x y h = or_right (bit_at w.pending x y) (bit_at w.pending y x) h

pub pending_none : (w : Network) (x y : ℕ) → bit_at w.pending x y ≡ false → bit_at w.pending y x ≡ false →
    pending_at w x y ≡ false
unfolding pending_at
pending_none w x y a b = or_from (bit_at w.pending x y) (bit_at w.pending y x) a b

pub pended_by : (s t : Network) (i j : ℕ) → i < length s.pending → t.links ≡ s.links → t.sets ≡ s.sets →
    t.pending ≡ marked s.pending i j → Pended i j s t
pended_by s t i j l a b e = record {
  links = a;
  sets = b;
  there = pending_row t i j (rw e (mark_there s.pending i j l));
  more = λ x y h.
      elim (pending_cases s x y h) [
        | inl p ↦ pending_row t x y (rw e (mark_more s.pending i j l x y p))
        | inr p ↦ pending_column t x y (rw e (mark_more s.pending i j l y x p))
      ];
  only = λ x y h.
      elim (pending_cases t x y h) [
        | inl p ↦ elim (mark_only s.pending i j l x y (rw e at p)) [
          | inl q ↦ inl (pending_row s x y q)
          | inr q ↦ inr (inl q)
        ]
        | inr p ↦ elim (mark_only s.pending i j l y x (rw e at p)) [
          | inl q ↦ inl (pending_column s x y q)
          | inr q ↦ inr (inr (q.1, q.0))
        ]
      ];
}

pub pending_back : (w : Network) (x y : ℕ) → pending_at w x y ≡ true → pending_at w y x ≡ true
pending_back w x y h =
    elim (pending_cases w x y h) [ inl p ↦ pending_column w y x p | inr p ↦ pending_row w y x p ]

pub pended_back : (s t : Network) (i j : ℕ) → Pended j i s t → Pended i j s t
pended_back s t i j p = record {
  links = p.links;
  sets = p.sets;
  there = pending_back t j i p.there;
  more = p.more;
  only = λ x y h. elim (p.only x y h) [ inl a ↦ inl a | inr b ↦ inr (elim b [ inl q ↦ inr q | inr q ↦ inl q ]) ];
}

-- ---- the lowest bit of a row taken out

tally_other : (n : ℕ) (rows : List ℕ) (i v : ℕ) → n ≤ i → tally n (set rows i v) ≡ tally n rows
unfolding tally
tally_other zero rows i v h = refl
tally_other (suc n) rows i v h =
    let a = tally_other n rows i v (omega arith) in
    let b = get_or-set_other rows i n v 0 (omega arith) in
    rw (a, b)

tally_less : (n : ℕ) (rows : List ℕ) (i v : ℕ) → i < n → i < length rows → v < get_or rows i 0 → get_or rows i 0 < 2 ^ 64 →
    tally n (set rows i v) < tally n rows
unfolding tally
tally_less zero rows i v h l a b = omega arith
tally_less (suc n) rows i v h l a b =
    elim (cases_eq n i) [
      | inl e ↦
          let x = tally_other n rows i v (omega arith) in
          let y : get_or (set rows i v) n 0 ≡ v = rw e (get_or-set_same rows i v 0 l) in
          let z : get_or rows n 0 ≡ get_or rows i 0 = ap (λ k. get_or rows k 0) e in
          rw (x, y, z) (omega arith)
      | inr k ↦
          let x = tally_less n rows i v (omega arith) l a b in
          let y = get_or-set_other rows i n v 0 k in
          rw y (omega arith)
    ]

tally_below : (n : ℕ) (rows : List ℕ) → tally n rows ≤ n * 2 ^ 64
unfolding tally
tally_below zero rows = omega arith
tally_below (suc n) rows = let a = tally_below n rows in omega arith

pub load_below : (w : Network) → load w < 2 ^ 70
unfolding load
load_below w = let a = tally_below 48 w.pending in omega arith

-- v is row i without its lowest member j
module _ (rows : List ℕ) (i j v : ℕ) (l : i < length rows) (low : Lowest (get_or rows i 0) j v) where
  row_here : get_or (set rows i v) i 0 ≡ v
  row_here = get_or-set_same rows i v 0 l

  row_there : (x : ℕ) → x ≢ i → get_or (set rows i v) x 0 ≡ get_or rows x 0
  row_there x n = get_or-set_other rows i x v 0 n

  lowered_fewer : (x y : ℕ) → bit_at (set rows i v) x y ≡ true → bit_at rows x y ≡ true
  lowered_fewer x y h =
      elim (cases_eq x i) [
        | inl e ↦ rw e (left_within low y (sym (ap (λ k. has k y) row_here) ∙ rw e at h))
        | inr n ↦ sym (ap (λ k. has k y) (row_there x n)) ∙ h
      ]

  lowered_only : (x y : ℕ) → bit_at rows x y ≡ true → (bit_at (set rows i v) x y ≡ true) ⊎ ((x ≡ i) × (y ≡ j))
  lowered_only x y h =
      elim (cases_eq x i) [
        | inl e ↦ elim (lowest_or_left low y (rw e at h)) [
          | inl q ↦ inr (e, q)
          | inr q ↦ inl (rw e (ap (λ k. has k y) row_here ∙ q))
        ]
        | inr n ↦ inl (ap (λ k. has k y) (row_there x n) ∙ h)
      ]

module _ (z s t : Network) (i j v : ℕ) (o : s ≡ z) (h : i < 48) (l : i < length s.pending) (k : j < 48)
    (f : get_or s.pending i 0 < 2 ^ 64) (low : Lowest (get_or s.pending i 0) j v)
    (a : t.links ≡ s.links) (b : t.sets ≡ s.sets) (e : t.pending ≡ set s.pending i v) where
  abbrev rows : List ℕ
  rows = s.pending

  took : Took i j s t
  unfolding load
  took = record {
    first_in = h;
    second_in = k;
    links = a;
    sets = b;
    was = pending_row s i j low.there;
    fewer = λ x y p.
        elim (pending_cases t x y p) [
          | inl q ↦ pending_row s x y (lowered_fewer rows i j v l low x y (rw e at q))
          | inr q ↦ pending_column s x y (lowered_fewer rows i j v l low y x (rw e at q))
        ];
    only = λ x y p.
        elim (pending_cases s x y p) [
          | inl q ↦ elim (lowered_only rows i j v l low x y q) [
            | inl r ↦ inl (pending_row t x y (rw e r))
            | inr r ↦ inr (inl r)
          ]
          | inr q ↦ elim (lowered_only rows i j v l low y x q) [
            | inl r ↦ inl (pending_column t x y (rw e r))
            | inr r ↦ inr (inr (r.1, r.0))
          ]
        ];
    lighter = rw e (tally_less 48 rows i _ h l low.less f);
  }

  pub took_by : Took i j z t
  took_by = subst (λ w. Took i j w t) o took
