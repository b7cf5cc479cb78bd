-- The number and the layer of each refusal of a file, and the text of a fault.
use Rattle.std.specs.Prelude.{ℕ, List, ◌++◌, codes, decimal}
use Rattle.programme.specs.Ledgers.{number}
use Rattle.qcue.specs.declared.refusals.FileRefusal.{FileRefusal}
use Rattle.qcue.specs.declared.refusals.FileRefusal.TheVariants.{TooShort, Occupied, Trailing, Unfinished, Cut}
use Rattle.qcue.specs.declared.refusals.FileRefusal.TheVariants.{UnknownKind, Misplaced, WrongLength, OtherStamp, WrongCount}
use Rattle.qcue.specs.declared.refusals.Reason.{Reason}
use Rattle.qcue.specs.declared.refusals.Reason.TheVariants.{File, Sheet}
use Rattle.qcue.specs.declared.refusals.Fault.{Fault}

abbrev pub file_number : FileRefusal → ℕ
file_number TooShort = 13
file_number Occupied = 14
file_number Trailing = 17
file_number Unfinished = 17
file_number Cut = 15
file_number UnknownKind = 16
file_number Misplaced = 17
file_number WrongLength = 18
file_number OtherStamp = 19
file_number WrongCount = 20

abbrev pub reason_number : Reason → ℕ
reason_number (File refusal) = file_number refusal
reason_number (Sheet refusal) = number refusal

abbrev pub layer_of : Reason → List ℕ
layer_of (File refusal) = codes "file"
layer_of (Sheet refusal) = codes "sheet"

-- as in `refused 17 at 49 file`
abbrev pub fault_text : Fault → List ℕ
fault_text fault =
    codes "refused " ++ (decimal (reason_number fault.reason) ++ (codes " at " ++
    (decimal fault.offset ++ (codes " " ++ layer_of fault.reason))))
