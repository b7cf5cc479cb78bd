-- The network of a sheet as it stands in memory: which pairs of entries are linked, and the set on each ordered pair.
use Rattle.std.specs.Prelude.{◌≡◌, ℕ, ◌<◌, Bool, true, false, ◌↔◌, List, [], slice_index, slice_index_or}
use Rattle.algebra.specs.Masks.{has}
use Rattle.algebra.specs.Meaning.{Meaning}
use Rattle.network.specs.Ties.{Tie}
use Rattle.network.specs.Links.{Linked}
use Rattle.network.specs.Candidates.{Net, Settled}
use Rattle.programme.specs.declared.linkage.Network.{Network}

-- bit j of row i
abbrev pub bit_at : List ℕ → ℕ → ℕ → Bool
bit_at rows i j = has (slice_index rows i) j

-- the mask in row i and column j
abbrev pub cell : List (List ℕ) → ℕ → ℕ → ℕ
cell rows i j = slice_index (slice_index_or rows i []) j

-- the sets of a network, as a net
abbrev pub net_of : Network → Net
net_of w i j = cell w.sets i j

-- The network reflects the ties: its links are theirs, its sets are settled, and nothing is left to do.
pub record Reflects (m : Meaning) (w : Network) (ties : List Tie) : Type 0 where
  pub linked : (i j : ℕ) → (bit_at w.links i j ≡ true) ↔ Linked ties i j
  -- what is not linked has the universe
  pub free : (i j : ℕ) → i < 48 → j < 48 → bit_at w.links i j ≡ false → cell w.sets i j ≡ m.universe
  pub settled : Settled m ties (net_of w)
  pub idle : (i j : ℕ) → bit_at w.pending i j ≡ false

-- a tie by its parts
abbrev pub tie_of : ℕ → ℕ → ℕ → Tie
tie_of i j set = record { first = i; second = j; mask = set }

-- i has the empty set on some link
abbrev pub EmptiesIn : Network → ℕ → Type 0
EmptiesIn w i = (j : ℕ) × (j < 48) × (bit_at w.links i j ≡ true) × (cell w.sets i j ≡ 0)

-- some linked pair has the empty set
abbrev pub Empties : Network → Type 0
Empties w = (i : ℕ) × (i < 48) × EmptiesIn w i
