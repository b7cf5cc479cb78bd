-- Closing step by step: where it starts when a tie is added, one step, and what every step keeps.
use Rattle.std.specs.Prelude.{◌≡◌, ℕ, List, [], ◌∷◌, ◌++◌, bit_and}
use Rattle.algebra.specs.Meaning.{Meaning, converse_of, composition_of}
use Rattle.network.specs.Ties.{Tie}
use Rattle.network.specs.Links.{Linked}
use Rattle.network.specs.Candidates.{Net, Candidate, Under, Above}

-- the ties with one more, the newest last
abbrev pub adding : List Tie → Tie → List Tie
adding ties t = ties ++ (t ∷ [])

-- D is C, cut by the set s from i to j and by its converse from j to i, on the links of the ties
pub record Cut (m : Meaning) (ties : List Tie) (i j s : ℕ) (C D : Net) : Type 0 where
  pub there : D i j ≡ bit_and (C i j) s
  pub back : D j i ≡ bit_and (C j i) (converse_of m s)
  pub elsewhere : (a b : ℕ) → Linked ties a b → ¬ ((a ≡ i) × (b ≡ j)) → ¬ ((a ≡ j) × (b ≡ i)) → D a b ≡ C a b

-- C is where closing starts when t is added: S on the old links and the universe on the new, cut by t on its pair
pub record Started (m : Meaning) (ties : List Tie) (t : Tie) (S C : Net) : Type 0 where
  pub wide : Net
  pub old : (i j : ℕ) → Linked ties i j → wide i j ≡ S i j
  pub new : (i j : ℕ) → Linked (adding ties t) i j → ¬ Linked ties i j → wide i j ≡ m.universe
  pub cut : Cut m (adding ties t) t.first t.second t.mask wide C

-- D is C, cut on the link of i and j by the composition of the links by way of k
abbrev pub Narrowed : Meaning → List Tie → ℕ → ℕ → ℕ → Net → Net → Type 0
Narrowed m ties i k j C D = Cut m ties i j (composition_of m (C i k) (C k j)) C D

-- what closing keeps: a candidate under the ties that every closed one lies within
pub record Holding (m : Meaning) (ties : List Tie) (C : Net) : Type 0 where
  pub candidate : Candidate m ties C
  pub under : Under ties C
  pub above : Above m ties C
