-- What the inner functions write to a sheet.
use Rattle.std.specs.Prelude.{◌≡◌, ℕ, ◌+◌, cond, ◌≢◌, Result, ◌==◌, bit_and, slice_index_or}
use Rattle.algebra.specs.Meaning.{Meaning, converse_of}
use Rattle.programme.specs.Networks.{cell}
use Rattle.programme.specs.Spelled.{nobody}
use Rattle.programme.specs.Ledgers.{Ledger, tie, Below, Answered, taken, WhenTaken}
use Rattle.programme.specs.Shown.{Shows}
use Rattle.programme.specs.Timely.{TimelyTie}
use Rattle.programme.specs.declared.naming.Name.{Name}
use Rattle.programme.specs.declared.refusals.Refusal.{Refusal}
use Rattle.programme.specs.declared.sheets.Sheet.{Sheet}

-- t is s with one entry more
pub record Entered (s : Sheet) (name : Name) (t : Sheet) : Type 0 where
  pub count : t.count ≡ s.count + 1
  pub there : slice_index_or t.names s.count nobody ≡ name
  pub others : (k : ℕ) → k ≢ s.count → slice_index_or t.names k nobody ≡ slice_index_or s.names k nobody
  pub given : t.given ≡ s.given
  pub network : t.network ≡ s.network

-- the entries are as they were
pub record SameEntries (s t : Sheet) : Type 0 where
  pub count : t.count ≡ s.count
  pub names : t.names ≡ s.names

-- what a tie cuts: what is given, and the universe u where nothing is
abbrev pub ground : ℕ → ℕ → ℕ
ground u set = cond (set == 0) u set

-- t is s with what is given from i to j cut by the mask, within the universe u
pub record GivenCut (u : ℕ) (s : Sheet) (i j mask : ℕ) (t : Sheet) : Type 0 where
  pub entries : SameEntries s t
  pub network : t.network ≡ s.network
  pub there : cell t.given i j ≡ bit_and (ground u (cell s.given i j)) mask
  pub others : (a b : ℕ) → ¬ ((a ≡ i) × (b ≡ j)) → cell t.given a b ≡ cell s.given a b

-- t is s with what is given between i and j cut by the mask, both ways
pub record GivenCuts (m : Meaning) (s : Sheet) (i j mask : ℕ) (t : Sheet) : Type 0 where
  pub entries : SameEntries s t
  pub network : t.network ≡ s.network
  pub there : cell t.given i j ≡ bit_and (ground m.universe (cell s.given i j)) mask
  pub back : cell t.given j i ≡ bit_and (ground m.universe (cell s.given j i)) (converse_of m mask)
  pub others : (a b : ℕ) → ¬ ((a ≡ i) × (b ≡ j)) → ¬ ((a ≡ j) × (b ≡ i)) →
      cell t.given a b ≡ cell s.given a b

-- a tie that nothing but a clash can refuse is answered by r, and the sheet t has it if it is taken
pub record TieWritten (m : Meaning) (s : Sheet) (i j mask : ℕ) (r : Result ℕ Refusal) (t : Sheet) : Type 0 where
  pub entries : SameEntries s t
  pub answered : (L : Ledger) → Shows m s L → Below m L (tie i j mask) 10 → Answered m L (tie i j mask) r
  pub timely : (L : Ledger) → Shows m s L → TimelyTie m L i j mask r
  pub shown : (L : Ledger) → Shows m s L → WhenTaken r (Shows m t (taken L (tie i j mask)))
