-- The rows of a table, which stand behind references.
use Rattle.std.proofs.Common.{◌≡◌, ℕ, ◌<◌, List, [], length, get_or, sym, ap, ◌∙◌, Bor}
use Rattle.std.proofs.Math.ListN.{get_or-map}
use Rattle.std.proofs.lemmas.List.{length-map}
use Rattle.algebra.specs.Tables.{rows_of, Square}

-- what the code reads at a place past the rows
abbrev nothing : Bor (List ℕ)
nothing = record { ref_ptr = (0, 0); now = [] }

pub row_at : (rows : List (Bor (List ℕ))) (k : ℕ) → (get_or rows k nothing).now ≡ get_or (rows_of rows) k []
row_at rows k = sym (get_or-map (λ row. row.now) rows k nothing)

module _ (n : ℕ) (rows : List (Bor (List ℕ))) (square : Square n (rows_of rows)) where
  pub rows_tall : length rows ≡ n
  rows_tall = sym (length-map rows (λ row. row.now)) ∙ square.tall

  pub row_wide : (k : ℕ) → k < n → length (get_or rows k nothing).now ≡ n
  row_wide k h = ap length (row_at rows k) ∙ square.wide k h
