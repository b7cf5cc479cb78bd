-- Visiting the members of a set of bits.
use Rattle.std.specs.Prelude.{◌≡◌, ℕ, ◌<◌, ◌≤◌, true, not, ◌&&◌, Some, None, Option, ◌==◌}
use Rattle.algebra.specs.Masks.{has}

-- k is the lowest member of s, and t has the others
pub record Lowest (s k t : ℕ) : Type 0 where
  pub there : has s k ≡ true
  pub least : (j : ℕ) → has s j ≡ true → k ≤ j
  pub others : (j : ℕ) → has t j ≡ (has s j && not (j == k))
  pub less : t < s

-- a visit gives the lowest member of s, and none where s has no member; t is what is left
abbrev pub Visits : ℕ → Option ℕ → ℕ → Type 0
Visits s (Some k) t = Lowest s k t
Visits s None t = (s ≡ 0) × (t ≡ s)
