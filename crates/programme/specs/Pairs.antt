-- Pairs of entries, the smaller number first, in rising order, and lists with a row for each pair of some kind.
use Rattle.std.specs.Prelude.{◌≡◌, ℕ, ◌<◌, ◌⊎◌, List, [], ◌∷◌}
use mathlib.Core.List.{Memᴰ}

-- pairs rise by the smaller number, then by the larger
abbrev pub Before : ℕ → ℕ → ℕ → ℕ → Type 0
Before i j a b = (i < a) ⊎ ((i ≡ a) × (j < b))

-- the pair of each row comes before that of every later one
abbrev pub Rising : {X : Type 0} → (X → ℕ) → (X → ℕ) → List X → Type 0
Rising first second [] = Unit {0}
Rising {X} first second (x ∷ rows) =
    ((y : X) → Memᴰ y rows → Before (first x) (second x) (first y) (second y)) × Rising first second rows

-- the row is about the pair of i and j
abbrev pub About : {X : Type 0} → (X → ℕ) → (X → ℕ) → X → ℕ → ℕ → Type 0
About first second x i j = (first x ≡ i) × (second x ≡ j)

-- One row for each pair P, the smaller number first, in rising order; each row is as Is says.
pub record RowsOf {X : Type 0} (first second : X → ℕ) (Is : X → Type 0) (P : ℕ → ℕ → Type 0) (rows : List X) : Type 0 where
  pub rising : Rising first second rows
  pub each : (x : X) → Memᴰ x rows → Is x
  pub all : (i j : ℕ) → i < j → P i j → (x : X) × Memᴰ x rows × About first second x i j

-- the same of the pairs before that of i and j
pub record RowsTo {X : Type 0} (first second : X → ℕ) (Is : X → Type 0) (P : ℕ → ℕ → Type 0) (i j : ℕ) (rows : List X) : Type 0 where
  pub rising : Rising first second rows
  pub each : (x : X) → Memᴰ x rows → Is x
  pub earlier : (x : X) → Memᴰ x rows → Before (first x) (second x) i j
  pub all : (a b : ℕ) → a < b → Before a b i j → P a b → (x : X) × Memᴰ x rows × About first second x a b
