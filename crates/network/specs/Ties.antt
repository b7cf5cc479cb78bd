-- Ties: what is said of two entries, and what the ties themselves allow between two. Entries are numbers from 0 up.
use Rattle.std.specs.Prelude.{◌≡◌, ℕ, ◌<◌, true, ◌≢◌, ◌⊎◌, ◌↔◌, List}
use mathlib.Core.List.{Memᴰ}
use Rattle.algebra.specs.Masks.{has}
use Rattle.algebra.specs.Meaning.{Meaning, Reading}
use Rattle.algebra.specs.Instants.{instants}

-- r is in the set s
abbrev pub In : ℕ → ℕ → Type 0
In r s = has s r ≡ true

-- A tie says that the reading from the first entry to the second is one of the mask's.
pub record Tie : Type 0 where
  pub first : ℕ
  pub second : ℕ
  pub mask : ℕ

-- t is one of the ties
abbrev pub Among : Tie → List Tie → Type 0
Among t ties = Memᴰ t ties

-- i and j are two different entries of 0, .., n - 1
pub record Apart (n i j : ℕ) : Type 0 where
  pub first_in : i < n
  pub second_in : j < n
  pub differ : i ≢ j

-- each tie joins two different entries of 0, .., n - 1
abbrev pub Proper : ℕ → List Tie → Type 0
Proper n ties = (t : Tie) → Among t ties → Apart n t.first t.second

-- t goes from i to j
abbrev pub Joins : Tie → ℕ → ℕ → Type 0
Joins t i j = (t.first ≡ i) × (t.second ≡ j)

-- some tie joins i and j, one way round or the other
abbrev pub Tied : List Tie → ℕ → ℕ → Type 0
Tied ties i j = (t : Tie) × Among t ties × (Joins t i j ⊎ Joins t j i)

-- r is a reading that every tie from i to j has in its mask, and whose converse every tie from j to i has
pub record Allowed (m : Meaning) (ties : List Tie) (i j r : ℕ) : Type 0 where
  pub reading : Reading m r
  pub forth : (t : Tie) → Among t ties → Joins t i j → In r t.mask
  pub back : (t : Tie) → Among t ties → Joins t j i → In (m.converse r) t.mask

-- g is the given set from i to j: what the ties allow between them, and 0 if no tie joins them
pub record Given (m : Meaning) (ties : List Tie) (i j g : ℕ) : Type 0 where
  pub some : Tied ties i j → (r : ℕ) → In r g ↔ Allowed m ties i j r
  pub none : ¬ Tied ties i j → g ≡ 0

-- some given set of instants is exactly 'earlier or later'
abbrev pub Different : List Tie → Type 0
Different ties = (i j : ℕ) × Given instants ties i j 0x6
