-- Cells of the sets: two cells cut, and what the cells add up to.
use Rattle.std.proofs.Common.{◌≡◌, ℕ, ◌+◌, ◌<◌, ◌≢◌, List, [], length, get_or, set, sum, sum_by, sym, ap, ◌∙◌, inl, inr, arith, length-set, get_or-set_other, get_or-set_same}
use lib.Bits.{bit_and, and_le_l, and_le_r}
use Rattle.std.proofs.lemmas.Bool.{cases_eq}
use Rattle.std.proofs.lemmas.List.Sums.{sum_by-set}
use Rattle.programme.specs.Networks.{cell}
use Rattle.programme.specs.Steps.{Same}

-- v in row i and column j
abbrev pub written : List (List ℕ) → ℕ → ℕ → ℕ → List (List ℕ)
written rows i j v = set rows i (set (get_or rows i []) j v)

-- what is written in place of a number is added up in its place
sums_written : (rows : List (List ℕ)) (i j v : ℕ) → i < length rows → j < length (get_or rows i []) →
    sum_by sum (written rows i j v) + cell rows i j ≡ sum_by sum rows + v
sums_written rows i j v h k =
    let row = get_or rows i [] in
    let outer = sum_by-set sum rows i (set row j v) [] h in
    let inner : sum (set row j v) + get_or row j 0 ≡ sum row + v = sum_by-set (λ (x : ℕ). x) row j v 0 k in
    omega arith

row_long : (rows : List (List ℕ)) (i j v x : ℕ) → i < length rows →
    length (get_or (written rows i j v) x []) ≡ length (get_or rows x [])
row_long rows i j v x h =
    elim (cases_eq x i) [
      | inl e ↦ rw e (ap length (get_or-set_same rows i (set (get_or rows i []) j v) [] h) ∙ length-set (get_or rows i []) j v)
      | inr n ↦ ap length (get_or-set_other rows i x (set (get_or rows i []) j v) [] n)
    ]

cell_here : (rows : List (List ℕ)) (i j v : ℕ) → i < length rows → j < length (get_or rows i []) →
    cell (written rows i j v) i j ≡ v
cell_here rows i j v h k =
    ap (λ (x : List ℕ). get_or x j 0) (get_or-set_same rows i (set (get_or rows i []) j v) [] h)
    ∙ get_or-set_same (get_or rows i []) j v 0 k

cell_off : (rows : List (List ℕ)) (i j v x y : ℕ) → i < length rows → ¬ ((x ≡ i) × (y ≡ j)) →
    cell (written rows i j v) x y ≡ cell rows x y
cell_off rows i j v x y h n =
    elim (cases_eq x i) [
      | inl e ↦ rw e (ap (λ (z : List ℕ). get_or z y 0) (get_or-set_same rows i (set (get_or rows i []) j v) [] h)
          ∙ get_or-set_other (get_or rows i []) j y v 0 (λ q. n (e, q)))
      | inr k ↦ ap (λ (z : List ℕ). get_or z y 0) (get_or-set_other rows i x (set (get_or rows i []) j v) [] k)
    ]

-- the two cells of a pair, cut
pub record Cut (rows : List (List ℕ)) (i j there back : ℕ) (new : List (List ℕ)) : Type 0 where
  pub on : i ≢ j → cell new i j ≡ bit_and (cell rows i j) there
  pub across : i ≢ j → cell new j i ≡ bit_and (cell rows j i) back
  pub off : (x y : ℕ) → ¬ Same i j x y → cell new x y ≡ cell rows x y
  pub lighter : there < cell rows i j → sum_by sum new < sum_by sum rows

abbrev pub once : List (List ℕ) → ℕ → ℕ → ℕ → List (List ℕ)
once rows i j there = written rows i j (bit_and (cell rows i j) there)

module _ (rows : List (List ℕ)) (i j there back : ℕ) (hi : i < length rows) (hj : j < length rows)
    (k : j < length (get_or rows i [])) (l : i < length (get_or rows j [])) where
  abbrev us : List (List ℕ)
  us = once rows i j there

  hu : j < length us
  hu = rw length-set hj

  pub cut_by : Cut rows i j there back (once us j i back)
  cut_by = record {
    on = λ n. cell_off us j i (bit_and (cell us j i) back) i j hu (λ q. n q.0) ∙ cell_here rows i j _ hi k;
    across = λ n.
        let ji : j ≢ i = λ e. n (sym e) in
        let row : get_or us j [] ≡ get_or rows j [] = get_or-set_other rows i j _ [] ji in
        let lu : i < length (get_or us j []) = rw row l in
        cell_here us j i (bit_and (cell us j i) back) hu lu
        ∙ ap (λ x. bit_and x back) (cell_off rows i j (bit_and (cell rows i j) there) j i hi (λ q. ji q.0));
    off = λ x y q.
        cell_off us j i (bit_and (cell us j i) back) x y hu (λ b. q (inr b))
        ∙ cell_off rows i j (bit_and (cell rows i j) there) x y hi (λ a. q (inl a));
    lighter = λ w.
        let c = and_le_r (cell rows i j) there in
        let d = and_le_l (cell us j i) back in
        let a = sums_written rows i j (bit_and (cell rows i j) there) hi k in
        let b = sums_written us j i (bit_and (cell us j i) back) hu (rw (row_long rows i j _ j hi) l) in
        omega arith;
  }
