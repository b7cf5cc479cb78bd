-- The blank sheet shows the blank ledger.
use Rattle.std.proofs.Common.{◌≡◌, ℕ, zero, suc, ◌≤◌, List, [], get_or, replicate, refl, ap, ◌∙◌, arith, lit≤}
use mathlib.Core.List.Memᴰ
use Rattle.algebra.specs.Meaning.{Meaning}
use Rattle.network.proofs.Links.{no_links}
use Rattle.programme.specs.Networks.{cell, Reflects}
use Rattle.programme.specs.Spelled.{Short}
use Rattle.programme.specs.Ledgers.{blank}
use Rattle.programme.specs.Shown.{Shows}
use Rattle.programme.specs.declared.naming.Name.{Name}
use Rattle.programme.specs.declared.sheets.Sheet.{Sheet}

none_row : (n j : ℕ) → get_or {A = ℕ} (replicate n 0) j 0 ≡ 0
none_row zero j = refl
none_row (suc n) zero = refl
none_row (suc n) (suc j) = none_row n j

none_rows : (n k i j : ℕ) → cell (replicate n (replicate k 0)) i j ≡ 0
none_rows zero k i j = refl
none_rows (suc n) k zero j = none_row k j
none_rows (suc n) k (suc i) j = none_rows n k i j

pub short_all : (n : ℕ) (name : Name) → name.len ≤ 12 → Short (replicate n name)
short_all zero name h k = lit≤ tt
short_all (suc n) name h zero = h
short_all (suc n) name h (suc k) = short_all n name h k

pub blank_shows : (m : Meaning) (s : Sheet) → s.count ≡ 0 → s.given ≡ replicate 48 (replicate 48 0) →
    Reflects m s.network [] → Shows m s blank
blank_shows m s e g w = record {
  counted = e;
  room = omega arith;
  named = λ k h. absurd (omega arith);
  proper = λ t a. absurd (Memᴰ.not-nil a);
  given = λ i j. record {
    some = λ t. absurd (Memᴰ.not-nil t.1);
    none = λ _. ap (λ (rows : List (List ℕ)). cell rows i j) g ∙ none_rows 48 48 i j;
  };
  given_some = λ i j t. absurd (Memᴰ.not-nil t.1);
  network = w;
  clear = λ x. no_links x.2;
}
