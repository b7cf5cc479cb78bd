-- What write puts out, and that it loads as the programme that wrote it.
use Rattle.std.specs.Prelude.{◌≡◌, ℕ, ◌+◌, ◌<◌, ◌↔◌, List, ◌∷◌, ◌++◌, length, Ok}
use Rattle.std.specs.List.{flat_map}
use Rattle.algebra.specs.Meaning.{Meaning}
use Rattle.algebra.specs.declared.interface.Stamp.{Stamp}
use Rattle.network.specs.Ties.{Tie, Tied, Given}
use Rattle.network.specs.Links.{Linked}
use Rattle.network.specs.Candidates.{Net, Settled}
use Rattle.programme.specs.Ledgers.{Ledger, blank, Answered}
use Rattle.programme.specs.Pairs.{RowsOf}
use Rattle.qcue.specs.Records.{le16, le32}
use Rattle.qcue.specs.Loaded.{Loads}
use Rattle.qcue.specs.declared.loading.Expected.TheVariants.{Head}

-- ---- the ties of a file: each tied pair once, the smaller number first, in rising order, with its given set

-- a tied pair, the smaller number first, with its given set
pub record TiedPair (m : Meaning) (L : Ledger) (t : Tie) : Type 0 where
  pub smaller : t.first < t.second
  pub tied : Tied L.ties t.first t.second
  pub given : Given m L.ties t.first t.second t.mask

-- the rows are all tied pairs of the ledger
abbrev pub TiedPairs : Meaning → Ledger → List Tie → Type 0
TiedPairs m L rows = RowsOf (λ t. t.first) (λ t. t.second) (TiedPair m L) (Tied L.ties) rows

-- a ledger has one list of them
abbrev pub OneList : Type 0
OneList = (m : Meaning) (L : Ledger) (these those : List Tie) → TiedPairs m L these → TiedPairs m L those → these ≡ those

-- ---- the bytes of a file

abbrev pub head_bytes : Stamp → List ℕ
head_bytes stamp = 14 ∷ 0 ∷ 1 ∷ 0 ∷ 0x51 ∷ 0x43 ∷ 0x55 ∷ 0x45 ∷ 1 ∷ stamp.code ∷ le32 stamp.house

abbrev pub entry_bytes : List ℕ → List ℕ
entry_bytes name = le16 (4 + length name) ++ (2 ∷ 0 ∷ name)

abbrev pub tie_bytes : Tie → List ℕ
tie_bytes t = 10 ∷ 0 ∷ 3 ∷ 0 ∷ t.first ∷ t.second ∷ le32 t.mask

abbrev pub end_bytes : ℕ → ℕ → List ℕ
end_bytes entries ties = 7 ∷ 0 ∷ 4 ∷ 0 ∷ entries ∷ le16 ties

abbrev pub file_bytes : Stamp → List (List ℕ) → List Tie → List ℕ
file_bytes stamp names rows =
    head_bytes stamp ++ (flat_map entry_bytes names ++ (flat_map tie_bytes rows ++ end_bytes (length names) (length rows)))

-- the bytes are the file of the ledger
abbrev pub FileOf : Meaning → Ledger → List ℕ → Type 0
FileOf m L bytes = (rows : List Tie) × TiedPairs m L rows × (bytes ≡ file_bytes m.stamp L.names rows)

-- ---- what was written loads as the programme that wrote it

-- the same names, given sets, links and settled sets
pub record SameLedger (m : Meaning) (L K : Ledger) : Type 0 where
  pub names : K.names ≡ L.names
  pub given : (i j g : ℕ) → Given m L.ties i j g ↔ Given m K.ties i j g
  pub linked : (i j : ℕ) → Linked L.ties i j ↔ Linked K.ties i j
  pub settled : (S : Net) → Settled m L.ties S ↔ Settled m K.ties S

-- the bytes load into a blank ledger, and lead to the same as L
abbrev pub LoadsBack : Meaning → Ledger → List ℕ → Type 0
LoadsBack m L bytes = (K : Ledger) × Loads (Answered m) m Head blank 0 bytes (Ok 0) K × SameLedger m L K
