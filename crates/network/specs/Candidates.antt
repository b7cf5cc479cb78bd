-- Candidates for what may stand on each link, the greatest closed one, and clashes.
use Rattle.std.specs.Prelude.{◌≡◌, ℕ, List}
use Rattle.algebra.specs.Meaning.{Meaning, Reading, composition_of}
use Rattle.network.specs.Ties.{In, Tie, Among}
use Rattle.network.specs.Links.{Linked}

-- a set for each ordered pair of entries; only those on links count
abbrev pub Net : Type 0
Net = ℕ → ℕ → ℕ

-- D lies within S, link by link
abbrev pub Inside : List Tie → Net → Net → Type 0
Inside ties D S = (i j r : ℕ) → Linked ties i j → In r (D i j) → In r (S i j)

-- the sets are of readings, and each is the converse of the one the other way
pub record Candidate (m : Meaning) (ties : List Tie) (S : Net) : Type 0 where
  pub within : (i j r : ℕ) → Linked ties i j → In r (S i j) → Reading m r
  pub both_ways : (i j r : ℕ) → Linked ties i j → In r (S i j) → In (m.converse r) (S j i)

-- each tie's link lies within the tie's mask
abbrev pub Under : List Tie → Net → Type 0
Under ties S = (t : Tie) → Among t ties → (r : ℕ) → In r (S t.first t.second) → In r t.mask

-- each link lies within the composition of any two links that lead round by a third entry
abbrev pub Closed : Meaning → List Tie → Net → Type 0
Closed m ties S =
    (i k j r : ℕ) → Linked ties i k → Linked ties k j → Linked ties i j →
    In r (S i j) → In r (composition_of m (S i k) (S k j))

-- a candidate that is under the ties and closed
pub record ClosedCandidate (m : Meaning) (ties : List Tie) (S : Net) : Type 0 where
  pub candidate : Candidate m ties S
  pub under : Under ties S
  pub closed : Closed m ties S

-- every closed candidate lies within S
abbrev pub Above : Meaning → List Tie → Net → Type 0
Above m ties S = (D : Net) → ClosedCandidate m ties D → Inside ties D S

-- Settled: the greatest closed candidate.
pub record Settled (m : Meaning) (ties : List Tie) (S : Net) : Type 0 where
  pub fit : ClosedCandidate m ties S
  pub greatest : Above m ties S

-- some link has the empty set
abbrev pub Emptied : List Tie → Net → Type 0
Emptied ties S = (i j : ℕ) × Linked ties i j × (S i j ≡ 0)

-- the ties clash: what they settle leaves some link empty
abbrev pub Clash : Meaning → List Tie → Type 0
Clash m ties = (S : Net) × Settled m ties S × Emptied ties S

-- each tie of less joins a pair that is linked under more, and every closed candidate under more is under less
pub record Follows (m : Meaning) (less more : List Tie) : Type 0 where
  pub linked : (t : Tie) → Among t less → Linked more t.first t.second
  pub under : (D : Net) → ClosedCandidate m more D → Under less D
