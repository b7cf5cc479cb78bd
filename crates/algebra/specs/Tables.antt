-- Algebras whose converses and compositions stand in two tables.
use Rattle.std.specs.Prelude.{◌≡◌, ℕ, ◌<◌, List, [], length, map, slice_index, slice_index_or}
use Rattle.std.specs.Borrow.{Bor}
use Rattle.algebra.specs.Meaning.{Meaning}

-- the reading at place a, and the mask at row a and column b
abbrev pub turned : List ℕ → ℕ → ℕ
turned readings a = slice_index readings a

abbrev pub composed : List (List ℕ) → ℕ → ℕ → ℕ
composed rows a b = slice_index (slice_index_or rows a []) b

-- a table has no house rule: every bit of its house mask is set
abbrev pub tabled : ℕ → ℕ → List ℕ → List (List ℕ) → Meaning
tabled code universe readings rows = record {
  universe = universe;
  converse = turned readings;
  composition = composed rows;
  stamp = record { code = code; house = 0xFFFFFFFF };
}

-- the rows behind references
abbrev pub rows_of : List (Bor (List ℕ)) → List (List ℕ)
rows_of rows = map (λ row. row.now) rows

-- n rows of n masks each
pub record Square (n : ℕ) (rows : List (List ℕ)) : Type 0 where
  pub tall : length rows ≡ n
  pub wide : (k : ℕ) → k < n → length (slice_index_or rows k []) ≡ n
