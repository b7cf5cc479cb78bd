-- The steps of settling a network: how each changes it, and what each keeps under the ties.
use Rattle.std.specs.Prelude.{◌≡◌, ℕ, zero, suc, ◌+◌, ◌%◌, ◌^◌, ◌<◌, ◌≤◌, Bool, true, false, ◌||◌, ◌≢◌, ◌⊎◌, ◌↔◌, List, Some, None, Option, bit_and, sum, sum_by, slice_index}
use Rattle.algebra.specs.Masks.{has}
use Rattle.algebra.specs.Meaning.{Meaning, composition_of}
use Rattle.network.specs.Ties.{Tie, Proper}
use Rattle.network.specs.Links.{Linked}
use Rattle.network.specs.Closing.{Holding}
use Rattle.programme.specs.Networks.{bit_at, cell, net_of}
use Rattle.programme.specs.declared.linkage.Network.{Network}

-- the pair of x and y is that of i and j
abbrev pub Same : ℕ → ℕ → ℕ → ℕ → Type 0
Same i j x y = ((x ≡ i) × (y ≡ j)) ⊎ ((x ≡ j) × (y ≡ i))

-- whether the pair of i and j is pending, whichever is the row
unfoldable pub pending_at : Network → ℕ → ℕ → Bool
pending_at w i j = bit_at w.pending i j || bit_at w.pending j i

-- ---- what falls while a network closes

-- all sets, as numbers, added up
unfoldable pub weight : Network → ℕ
weight w = sum_by sum w.sets

-- the first n rows, each a number of 64 bits, added up
unfoldable pub tally : ℕ → List ℕ → ℕ
tally zero rows = 0
tally (suc n) rows = tally n rows + slice_index rows n % 2 ^ 64

-- all that is pending, as numbers, added up
unfoldable pub load : Network → ℕ
load w = tally 48 w.pending

-- ---- links

-- the pair of i and j is pending besides
pub record Pended (i j : ℕ) (s t : Network) : Type 0 where
  pub links : t.links ≡ s.links
  pub sets : t.sets ≡ s.sets
  pub there : pending_at t i j ≡ true
  pub more : (x y : ℕ) → pending_at s x y ≡ true → pending_at t x y ≡ true
  pub only : (x y : ℕ) → pending_at t x y ≡ true → (pending_at s x y ≡ true) ⊎ Same i j x y

-- a link that was not there: one of the pairs P, both ways, and pending
pub record Fresh (P : ℕ → ℕ → Type 0) (t : Network) (a b : ℕ) : Type 0 where
  pub back : bit_at t.links b a ≡ true
  pub by : P a b ⊎ P b a
  pub waits : pending_at t a b ≡ true

-- t has the links of s and, of others, only pairs P; the sets are as they were
pub record Grown (P : ℕ → ℕ → Type 0) (s t : Network) : Type 0 where
  pub sets : t.sets ≡ s.sets
  pub more : (a b : ℕ) → bit_at s.links a b ≡ true → bit_at t.links a b ≡ true
  pub only : (a b : ℕ) → bit_at t.links a b ≡ true → (bit_at s.links a b ≡ true) ⊎ Fresh P t a b
  pub waits_more : (a b : ℕ) → pending_at s a b ≡ true → pending_at t a b ≡ true
  pub waits_only : (a b : ℕ) → pending_at t a b ≡ true → (pending_at s a b ≡ true) ⊎ (bit_at t.links a b ≡ true)

-- from i to each of a set
abbrev pub Each : ℕ → ℕ → ℕ → ℕ → Type 0
Each i set a b = (a ≡ i) × (has set b ≡ true)

-- a and b, in this order, are lower neighbours of k
pub record Below (w : Network) (k a b : ℕ) : Type 0 where
  pub order : a < b
  pub low : b < k
  pub first : bit_at w.links k a ≡ true
  pub second : bit_at w.links k b ≡ true

-- every link of w is a link of the ties
abbrev pub Fewer : Network → List Tie → Type 0
Fewer w ties = (a b : ℕ) → bit_at w.links a b ≡ true → Linked ties a b

-- a and b are linked under any ties that have the links of w
abbrev pub Implied : Network → ℕ → ℕ → Type 0
Implied w a b = (ties : List Tie) → Fewer w ties → Linked ties a b

-- the lower neighbours of each entry from n on are linked
abbrev pub FullFrom : ℕ → Network → Type 0
FullFrom n w = (k a b : ℕ) → n ≤ k → k < 48 → Below w k a b → bit_at w.links a b ≡ true

-- ---- sets

-- the sets of i and j are cut, and their pair is pending
pub record Trimmed (i j there back : ℕ) (s t : Network) : Type 0 where
  pub links : t.links ≡ s.links
  pub on : i ≢ j → cell t.sets i j ≡ bit_and (cell s.sets i j) there
  pub across : i ≢ j → cell t.sets j i ≡ bit_and (cell s.sets j i) back
  pub off : (x y : ℕ) → ¬ Same i j x y → cell t.sets x y ≡ cell s.sets x y
  pub waits : pending_at t i j ≡ true
  pub waits_more : (x y : ℕ) → pending_at s x y ≡ true → pending_at t x y ≡ true
  pub waits_only : (x y : ℕ) → pending_at t x y ≡ true → (pending_at s x y ≡ true) ⊎ Same i j x y
  pub lighter : there < cell s.sets i j → weight t < weight s

-- every reading of a is in b
abbrev pub Within : ℕ → ℕ → Type 0
Within a b = (r : ℕ) → has a r ≡ true → has b r ≡ true

-- what may stand from i to j lies within what leads round by k
abbrev pub Shut : Meaning → Network → ℕ → ℕ → ℕ → Type 0
Shut m w i k j = Within (cell w.sets i j) (composition_of m (cell w.sets i k) (cell w.sets k j))

-- .. unless a side of the triangle is pending
abbrev pub Covered : Meaning → Network → ℕ → ℕ → ℕ → Type 0
Covered m w i k j = pending_at w i k ≡ false → pending_at w k j ≡ false → pending_at w i j ≡ false → Shut m w i k j

-- each side of the triangle, one way round
pub record Around (m : Meaning) (w : Network) (i k j : ℕ) : Type 0 where
  pub ikj : Covered m w i k j
  pub ijk : Covered m w i j k
  pub kij : Covered m w k i j

-- ---- closing, under the ties

-- on the way to a settled network: its links are those of the ties, and its sets hold what closing keeps
pub record Midway (m : Meaning) (ties : List Tie) (w : Network) : Type 0 where
  pub proper : Proper 48 ties
  pub linked : (i j : ℕ) → (bit_at w.links i j ≡ true) ↔ Linked ties i j
  pub free : (i j : ℕ) → i < 48 → j < 48 → bit_at w.links i j ≡ false → cell w.sets i j ≡ m.universe
  pub holding : Holding m ties (net_of w)
  pub waits : (i j : ℕ) → pending_at w i j ≡ true → Linked ties i j

-- .. and every triangle with no side pending is closed
pub record Ready (m : Meaning) (ties : List Tie) (w : Network) : Type 0 where
  pub midway : Midway m ties w
  pub covered : (i k j : ℕ) → Linked ties i k → Linked ties k j → Linked ties i j → Covered m w i k j

-- the three links of a triangle
pub record Triangle (i k j : ℕ) (ties : List Tie) : Type 0 where
  pub ik : Linked ties i k
  pub kj : Linked ties k j
  pub ij : Linked ties i j

-- i and j are linked
abbrev pub Link : ℕ → ℕ → List Tie → Type 0
Link i j ties = Linked ties i j

-- from s to t sets were cut, if any, and what changed is pending; under ties that are as H says, t is as far as s
pub record Move (m : Meaning) (H : List Tie → Type 0) (s t : Network) : Type 0 where
  pub links : t.links ≡ s.links
  pub waits_more : (x y : ℕ) → pending_at s x y ≡ true → pending_at t x y ≡ true
  pub covered : (i k j : ℕ) → Covered m s i k j → Covered m t i k j
  pub less : (t ≡ s) ⊎ (weight t < weight s)
  pub holds : (ties : List Tie) → H ties → Midway m ties s → Midway m ties t

-- the side from i to j was narrowed by way of k, or was closed already
abbrev pub Met : Meaning → ℕ → ℕ → ℕ → Network → Network → Type 0
Met m i k j s t = (pending_at t i j ≡ true) ⊎ ((t ≡ s) × Shut m s i k j)

-- the pair of i and j is no longer pending
pub record Took (i j : ℕ) (s t : Network) : Type 0 where
  pub first_in : i < 48
  pub second_in : j < 48
  pub links : t.links ≡ s.links
  pub sets : t.sets ≡ s.sets
  pub was : pending_at s i j ≡ true
  pub fewer : (x y : ℕ) → pending_at t x y ≡ true → pending_at s x y ≡ true
  pub only : (x y : ℕ) → pending_at s x y ≡ true → (pending_at t x y ≡ true) ⊎ Same i j x y
  pub lighter : load t < load s

-- a pair that was pending, if there was one
abbrev pub Taken : Network → Network → Option (ℕ × ℕ) → Type 0
Taken s t (Some p) = Took p.0 p.1 s t
Taken s t None = (t ≡ s) × ((x y : ℕ) → x < 48 → y < 48 → pending_at s x y ≡ false)
