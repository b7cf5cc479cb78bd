-- Arrangements of entries, times for entries, and what it means that they meet ties.
use Rattle.std.specs.Prelude.{◌≡◌, ℕ, List, ℤ}
use Rattle.algebra.specs.Meaning.{Meaning, Reading}
use Rattle.algebra.specs.Things.{In as Between}
use Rattle.algebra.specs.Instants.{InstantsStand}
use Rattle.network.specs.Ties.{In, Tie, Among, Apart}

-- An arrangement of n entries: one reading from each to each other, such that every pair and every three agree.
pub record Arrangement (m : Meaning) (n : ℕ) (ρ : ℕ → ℕ → ℕ) : Type 0 where
  pub reading : (i j : ℕ) → Apart n i j → Reading m (ρ i j)
  pub both_ways : (i j : ℕ) → Apart n i j → ρ j i ≡ m.converse (ρ i j)
  pub closed : (i k j : ℕ) → Apart n i k → Apart n k j → Apart n i j → In (ρ i j) (m.composition (ρ i k) (ρ k j))

-- the reading from each tie's first entry to its second is in the tie's mask
abbrev pub Meets : List Tie → (ℕ → ℕ → ℕ) → Type 0
Meets ties ρ = (t : Tie) → Among t ties → In (ρ t.first t.second) t.mask

-- a time for each entry, a whole number of any size
abbrev pub Times : Type 0
Times = ℕ → ℤ

-- the reading between the times of each tie's entries is in its mask
abbrev pub TimesMeet : List Tie → Times → Type 0
TimesMeet ties time = (t : Tie) → Among t ties → Between InstantsStand t.mask (time t.first) (time t.second)
