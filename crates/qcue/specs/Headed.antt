-- What the head of a file says: its stamp, and the algebra that it names.
use Rattle.std.specs.Prelude.{◌≡◌, ℕ, ◌≤◌, List, Some, Ok, Err, Result}
use Rattle.algebra.specs.House.{housed}
use Rattle.algebra.specs.Meaning.{Meaning}
use Rattle.algebra.specs.Standard.{meaning_of, standard_of}
use Rattle.algebra.specs.declared.interface.Stamp.{Stamp}
use Rattle.algebra.specs.declared.standards.Standard.{Standard}
use Rattle.qcue.specs.Records.{payload_of, stamp_in}
use Rattle.qcue.specs.Loaded.{Kept, Broken}
use Rattle.qcue.specs.declared.loading.Expected.TheVariants.{Head}
use Rattle.qcue.specs.declared.refusals.Fault.{Fault}
use Rattle.qcue.specs.declared.refusals.FileRefusal.{FileRefusal}
use Rattle.qcue.specs.declared.refusals.Reason.TheVariants.{File}

-- the code is that of a standard algebra
abbrev pub StandardCode : Stamp → Type 0
StandardCode stamp = (1 ≤ stamp.code) × (stamp.code ≤ 3)

-- The first record keeps every rule of a head, where any standard algebra will do, or is refused by the first that it breaks.
abbrev pub HeadRead : List ℕ → Result Stamp FileRefusal → Type 0
HeadRead bytes (Ok stamp) = Kept StandardCode Head 0 0 bytes × (stamp ≡ stamp_in (payload_of bytes))
HeadRead bytes (Err refusal) = Broken StandardCode Head 0 0 bytes refusal

-- a refusal is at the offset 0
abbrev pub Headed : List ℕ → Result Stamp Fault → Type 0
Headed bytes (Ok stamp) = HeadRead bytes (Ok stamp)
Headed bytes (Err fault) =
    (refusal : FileRefusal) × HeadRead bytes (Err refusal) × (fault ≡ record { reason = File refusal; offset = 0 })

-- m is the meaning of the algebra that the head names: the standard one with its code, cut by its house mask
pub record Opened (bytes : List ℕ) (m : Meaning) : Type 0 where
  pub stamp : Stamp
  pub below : Standard
  pub read : Headed bytes (Ok stamp)
  pub named : standard_of stamp.code ≡ Some below
  pub cut : m ≡ housed (meaning_of below) stamp.house
