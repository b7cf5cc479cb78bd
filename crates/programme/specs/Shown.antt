-- The ledgers that a sheet shows.
use Rattle.std.specs.Prelude.{◌≡◌, ℕ, ◌<◌, ◌≤◌, ◌≢◌, [], length, slice_index_or}
use Rattle.algebra.specs.Meaning.{Meaning}
use Rattle.network.specs.Ties.{Proper, Tied, Given}
use Rattle.network.specs.Candidates.{Emptied}
use Rattle.programme.specs.Networks.{cell, net_of, Reflects}
use Rattle.programme.specs.Spelled.{name_of, nobody}
use Rattle.programme.specs.Ledgers.{Ledger}
use Rattle.programme.specs.declared.sheets.Sheet.{Sheet}

-- The sheet shows the ledger: its names, what its ties give, and its network, in which no link is empty.
pub record Shows (m : Meaning) (s : Sheet) (L : Ledger) : Type 0 where
  pub counted : s.count ≡ length L.names
  pub room : s.count ≤ 48
  pub named : (k : ℕ) → k < s.count → slice_index_or s.names k nobody ≡ name_of (slice_index_or L.names k [])
  pub proper : Proper (length L.names) L.ties
  pub given : (i j : ℕ) → Given m L.ties i j (cell s.given i j)
  pub given_some : (i j : ℕ) → Tied L.ties i j → cell s.given i j ≢ 0
  pub network : Reflects m s.network L.ties
  pub clear : ¬ Emptied L.ties (net_of s.network)
