-- What the inner functions of a write put into a buffer.
use Rattle.std.specs.Prelude.{◌≡◌, ℕ, ◌+◌, ◌<◌, ◌≤◌, List, [], ◌++◌, length, drop, Ok, Err, Result, slice_index_or}
use Rattle.std.proofs.Math.Seq.{paste}
use Rattle.std.specs.List.{flat_map}
use Rattle.algebra.specs.Meaning.{Meaning}
use Rattle.network.specs.Ties.{Tie, Tied}
use Rattle.programme.specs.Ledgers.{Ledger}
use Rattle.programme.specs.Grown.{Orderly}
use Rattle.programme.specs.Pairs.{RowsTo}
use Rattle.programme.specs.Shown.{Shows}
use Rattle.programme.specs.declared.sheets.Sheet.{Sheet}
use Rattle.qcue.specs.Written.{TiedPair, TiedPairs, entry_bytes, tie_bytes, FileOf, LoadsBack}
use Rattle.qcue.specs.declared.refusals.FileRefusal.{FileRefusal}
use Rattle.qcue.specs.declared.refusals.FileRefusal.TheVariants.{TooShort}

-- the part is put into the buffer at a place, if there is room for it, and ends there
pub record Put (part old : List ℕ) (at : ℕ) (new : List ℕ) (end : ℕ) : Type 0 where
  pub ends : end ≡ at + length part
  pub long : length new ≡ length old
  pub there : end ≤ length old → new ≡ paste old at part (length part)

-- what is put there is the entry with this number, of whichever ledger the sheet shows
pub record PutEntry (m : Meaning) (s : Sheet) (k : ℕ) (old : List ℕ) (at : ℕ) (new : List ℕ) (end : ℕ) : Type 0 where
  pub part : List ℕ
  pub put : Put part old at new end
  pub named : (L : Ledger) → Shows m s L → k < length L.names → part ≡ entry_bytes (slice_index_or L.names k [])

-- .. all entries
pub record PutEntries (m : Meaning) (s : Sheet) (old : List ℕ) (at : ℕ) (new : List ℕ) (end : ℕ) : Type 0 where
  pub part : List ℕ
  pub put : Put part old at new end
  pub named : (L : Ledger) → Shows m s L → part ≡ flat_map entry_bytes L.names

-- the rows are the tied pairs that come before the pair of i and j
abbrev pub Upto : Meaning → Ledger → ℕ → ℕ → List Tie → Type 0
Upto m L i j rows = RowsTo (λ t. t.first) (λ t. t.second) (TiedPair m L) (Tied L.ties) i j rows

-- these rows come next: with them, the tied pairs before i and j become those before a and b
abbrev pub Next : Meaning → Ledger → ℕ → ℕ → ℕ → ℕ → List Tie → Type 0
Next m L i j a b rows = (before : List Tie) → Upto m L i j before → Upto m L a b (before ++ rows)

-- .. the pair of i and j, if it is tied
pub record PutPair (m : Meaning) (s : Sheet) (i j : ℕ) (old : List ℕ) (at : ℕ) (new : List ℕ) (end : ℕ) : Type 0 where
  pub rows : List Tie
  pub put : Put (flat_map tie_bytes rows) old at new end
  pub next : (L : Ledger) → Shows m s L → j < length L.names → Next m L i j i (j + 1) rows

-- .. the tied pairs of i with later entries
pub record PutRow (m : Meaning) (s : Sheet) (i : ℕ) (old : List ℕ) (at : ℕ) (new : List ℕ) (end : ℕ) : Type 0 where
  pub rows : List Tie
  pub put : Put (flat_map tie_bytes rows) old at new end
  pub next : (L : Ledger) → Shows m s L → i < length L.names → Next m L i (i + 1) (i + 1) (i + 2) rows

-- .. all tied pairs
pub record PutTies (m : Meaning) (s : Sheet) (old : List ℕ) (at : ℕ) (new : List ℕ) (end : ℕ) : Type 0 where
  pub rows : List Tie
  pub put : Put (flat_map tie_bytes rows) old at new end
  pub pairs : (L : Ledger) → Shows m s L → TiedPairs m L rows

-- .. the whole file
pub record PutFile (m : Meaning) (s : Sheet) (old new : List ℕ) (end : ℕ) : Type 0 where
  pub bytes : List ℕ
  pub put : Put bytes old 0 new end
  pub file : (L : Ledger) → Shows m s L → FileOf m L bytes

-- What write answers for every ledger that the sheet shows: the length of its file, which stands at the front of the buffer and
-- would load back if calls led to the ledger, and the other bytes are as they were; or that the buffer is shorter, and then every byte is as it was.
abbrev pub WrittenAs : Meaning → Sheet → List ℕ → List ℕ → Result ℕ FileRefusal → Type 0
WrittenAs m s old new (Ok n) =
    (L : Ledger) → Shows m s L →
    (bytes : List ℕ) × FileOf m L bytes × (n ≡ length bytes) × (new ≡ bytes ++ drop n old) × (Orderly m L → LoadsBack m L bytes)
WrittenAs m s old new (Err refusal) =
    (refusal ≡ TooShort) × (new ≡ old) ×
    ((L : Ledger) → Shows m s L → (bytes : List ℕ) × FileOf m L bytes × (length old < length bytes))
