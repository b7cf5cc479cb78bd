-- What the inner functions of a load do: one record taken into a programme, and all of them.
use Rattle.std.specs.Prelude.{◌≡◌, ℕ, List, length, Ok, Err, Result}
use Rattle.algebra.specs.Meaning.{Meaning}
use Rattle.programme.specs.Ledgers.{Ledger}
use Rattle.programme.specs.Shown.{Shows}
use Rattle.programme.specs.declared.sheets.Sheet.{Sheet}
use Rattle.qcue.specs.Records.{kind_of, payload_of}
use Rattle.qcue.specs.Loaded.{KeptBy, BrokenBy, ask_in, following, Served, Says, Loads}
use Rattle.qcue.specs.Read.{Fresh}
use Rattle.qcue.specs.declared.loading.Expected.TheVariants.{Head}
use Rattle.qcue.specs.declared.loading.Loader.{Loader}
use Rattle.qcue.specs.declared.refusals.Fault.{Fault}
use Rattle.qcue.specs.declared.refusals.Reason.{Reason}
use Rattle.qcue.specs.declared.refusals.Reason.TheVariants.{File, Sheet as Denied}

-- the loader has come as far as the ledger
pub record Along (l : Loader) (L : Ledger) : Type 0 where
  pub tied : l.ties ≡ length L.ties
  pub fresh : Fresh l (length L.names)

-- the record at the front leads from L to K
pub record Took (m : Meaning) (l : Loader) (L : Ledger) (bytes : List ℕ) (t : Sheet) (k : Loader) (K : Ledger) : Type 0 where
  pub kept : KeptBy m l.expected L bytes
  pub served : Served (Says m) L (ask_in (kind_of bytes) (payload_of bytes)) (Ok K)
  pub shown : Shows m t K
  pub next : k.expected ≡ following (kind_of bytes)
  pub along : Along k K

-- a record is taken into the sheet, which is t then, and the loader k, or refused
abbrev pub TookAs : Meaning → Loader → Ledger → List ℕ → Sheet → Loader → Result ℕ Reason → Type 0
TookAs m l L bytes t k (Ok n) = (K : Ledger) × Took m l L bytes t k K
TookAs m l L bytes t k (Err (File refusal)) = BrokenBy m l.expected L bytes refusal
TookAs m l L bytes t k (Err (Denied refusal)) =
    KeptBy m l.expected L bytes × Served (Says m) L (ask_in (kind_of bytes) (payload_of bytes)) (Err refusal)

-- .. for every ledger that the sheet s shows
abbrev pub Takes : Meaning → Sheet → Loader → List ℕ → Sheet → Loader → Result ℕ Reason → Type 0
Takes m s l bytes t k r = (L : Ledger) → Shows m s L → Along l L → TookAs m l L bytes t k r

-- the sheet shows the ledger, if the file is not refused
abbrev pub ShowsLoaded : Meaning → Sheet → Ledger → Result ℕ Fault → Type 0
ShowsLoaded m t K (Ok n) = Shows m t K
ShowsLoaded m t K (Err fault) = Unit {0}

-- all records are taken into the sheet, which is t then, or the file is refused
abbrev pub TakesAll : Meaning → Sheet → List ℕ → Sheet → Result ℕ Fault → Type 0
TakesAll m s bytes t r =
    (L : Ledger) → Shows m s L → length L.names ≡ 0 → (K : Ledger) × Loads (Says m) m Head L 0 bytes r K × ShowsLoaded m t K r
