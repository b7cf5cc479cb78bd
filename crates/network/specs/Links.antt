-- Links: the pairs of entries that closing works on.
use Rattle.std.specs.Prelude.{ℕ, ◌<◌, ◌≢◌, List}
use Rattle.network.specs.Ties.{Tie, Among}

-- Two entries are linked, both ways, if a tie joins them or a greater entry is linked with both: the least such set of pairs.
pub data Linked (ties : List Tie) : ℕ → ℕ → Type 0 where
  tied : {t : Tie} → Among t ties → Linked ties t.first t.second
  turned : {i j : ℕ} → Linked ties i j → Linked ties j i
  filled : {i j k : ℕ} → i ≢ j → i < k → j < k → Linked ties i k → Linked ties j k → Linked ties i j
