-- What the inner functions of a listing add to a text, whichever ledger the sheet shows.
use Rattle.std.specs.Prelude.{◌≡◌, ℕ, ◌+◌, ◌<◌, List, [], ◌++◌, length, slice_index_or}
use Rattle.std.specs.List.{flat_map}
use Rattle.algebra.specs.Meaning.{Meaning}
use Rattle.network.specs.Links.{Linked}
use Rattle.programme.specs.Ledgers.{Ledger}
use Rattle.programme.specs.Grown.{Orderly}
use Rattle.programme.specs.Pairs.{RowsTo}
use Rattle.programme.specs.Shown.{Shows}
use Rattle.programme.specs.declared.sheets.Sheet.{Sheet}
use Rattle.listing.specs.declared.texts.Link.{Link}
use Rattle.listing.specs.Listed.{entry_line_of, entry_lines_of, link_line_of, IsLink, Links, tied}

-- the line of the entry with this number, of a ledger that calls led to
abbrev pub EntryAdded : Meaning → Sheet → ℕ → List ℕ → List ℕ → Type 0
EntryAdded m s k old new =
    (L : Ledger) → Shows m s L → Orderly m L → k < length L.names → new ≡ old ++ entry_line_of k (slice_index_or L.names k [])

-- .. of all entries
abbrev pub EntriesAdded : Meaning → Sheet → List ℕ → List ℕ → Type 0
EntriesAdded m s old new = (L : Ledger) → Shows m s L → Orderly m L → new ≡ old ++ entry_lines_of 0 L.names

-- the rows are the links that come before the pair of i and j
abbrev pub LinksTo : Meaning → Ledger → ℕ → ℕ → List Link → Type 0
LinksTo m L i j rows = RowsTo (λ row. row.first) (λ row. row.second) (IsLink m L) (Linked L.ties) i j rows

-- these rows come next: with them, the links before i and j become those before a and b
abbrev pub NextLinks : Meaning → Ledger → ℕ → ℕ → ℕ → ℕ → List Link → Type 0
NextLinks m L i j a b rows = (before : List Link) → LinksTo m L i j before → LinksTo m L a b (before ++ rows)

-- the lines of these rows, n of them tied
pub record RowsAdded (code : ℕ) (rows : List Link) (old new : List ℕ) (n : ℕ) : Type 0 where
  pub lines : new ≡ old ++ flat_map (link_line_of code) rows
  pub counted : n ≡ tied rows

-- .. of the pair of i and j, if it is linked
pub record PairAdded (m : Meaning) (s : Sheet) (i j : ℕ) (old new : List ℕ) (n : ℕ) : Type 0 where
  pub rows : List Link
  pub added : RowsAdded m.stamp.code rows old new n
  pub next : (L : Ledger) → Shows m s L → j < length L.names → NextLinks m L i j i (j + 1) rows

-- .. of the links of i with later entries
pub record RowAdded (m : Meaning) (s : Sheet) (i : ℕ) (old new : List ℕ) (n : ℕ) : Type 0 where
  pub rows : List Link
  pub added : RowsAdded m.stamp.code rows old new n
  pub next : (L : Ledger) → Shows m s L → i < length L.names → NextLinks m L i (i + 1) (i + 1) (i + 2) rows

-- .. of all links
pub record LinksAdded (m : Meaning) (s : Sheet) (old new : List ℕ) (n : ℕ) : Type 0 where
  pub rows : List Link
  pub added : RowsAdded m.stamp.code rows old new n
  pub links : (L : Ledger) → Shows m s L → Links m L rows
