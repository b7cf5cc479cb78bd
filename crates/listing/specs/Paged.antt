-- What the bytes of a file give: the listing of its sheet, or why there is none.
use Rattle.std.specs.Prelude.{ℕ, ◌<◌, ◌≤◌, ◌⊎◌, List, length, Ok, Err, codes}
use Rattle.algebra.specs.Meaning.{Meaning}
use Rattle.programme.specs.Ledgers.{Ledger, blank}
use Rattle.qcue.specs.Headed.{Headed, Opened}
use Rattle.qcue.specs.Loaded.{Loads, Says}
use Rattle.qcue.specs.Refusals.{fault_text}
use Rattle.qcue.specs.declared.loading.Expected.TheVariants.{Head}
use Rattle.qcue.specs.declared.refusals.Fault.{Fault}
use Rattle.listing.specs.Listed.{ListingOf}
use Rattle.listing.specs.declared.pages.Refused.{Refused}
use Rattle.listing.specs.declared.pages.Refused.TheVariants.{TooLong, File}

-- the ledger of the algebra that the head names answers the file so, from blank
pub record Answers (bytes : List ℕ) (fault : Fault) : Type 0 where
  pub m : Meaning
  pub opened : Opened bytes m
  pub last : Ledger
  pub refused : Loads (Says m) m Head blank 0 bytes (Err fault) last

-- the bytes are refused: there are more than 16,384 of them, the head is refused, or the file is
abbrev pub RefusedAs : List ℕ → Refused → Type 0
RefusedAs bytes TooLong = 16384 < length bytes
RefusedAs bytes (File fault) = (length bytes ≤ 16384) × (Headed bytes (Err fault) ⊎ Answers bytes fault)

-- the bytes load, and the text is the listing of the ledger that they lead to
pub record ListedAs (bytes text : List ℕ) : Type 0 where
  pub short : length bytes ≤ 16384
  pub m : Meaning
  pub opened : Opened bytes m
  pub K : Ledger
  pub loaded : Loads (Says m) m Head blank 0 bytes (Ok 0) K
  pub listing : ListingOf m K text

-- as in `refused 21 at 16384 program`
abbrev pub refused_text : Refused → List ℕ
refused_text TooLong = codes "refused 21 at 16384 program"
refused_text (File fault) = fault_text fault
