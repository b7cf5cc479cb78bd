-- What the inner functions read: the record at the front, the payloads, and one step of the loader.
use Rattle.std.specs.Prelude.{◌≡◌, ℕ, ◌+◌, cond, ◌≢◌, List, length, take, Some, None, Option, Result, MatchResult, ◌==◌, slice_index}
use Rattle.std.specs.Borrow.{Bor}
use Rattle.algebra.specs.declared.interface.Stamp.{Stamp}
use Rattle.programme.specs.Ledgers.{Ask}
use Rattle.programme.specs.Performed.{ask_of}
use Rattle.programme.specs.declared.lines.Call.{Call}
use Rattle.qcue.specs.Records.{length_of, kind_of, payload_of, Whole, mark}
use Rattle.qcue.specs.Loaded.{KnownKind, Kept, Broken, ask_in, following}
use Rattle.qcue.specs.declared.loading.Expected.TheVariants as expected
use Rattle.qcue.specs.declared.loading.Loader.{Loader}
use Rattle.qcue.specs.declared.records.Kind.{Kind}
use Rattle.qcue.specs.declared.records.Kind.TheVariants as kind
use Rattle.qcue.specs.declared.records.Record.{Record}
use Rattle.qcue.specs.declared.records.Record.TheVariants.{Head, Entry, Tie, End}
use Rattle.qcue.specs.declared.refusals.FileRefusal.{FileRefusal}
use Rattle.qcue.specs.declared.refusals.FileRefusal.TheVariants.{TooShort, Occupied, Trailing, Unfinished, Cut}
use Rattle.qcue.specs.declared.refusals.FileRefusal.TheVariants.{UnknownKind, Misplaced, WrongLength, OtherStamp, WrongCount}

-- ---- the record at the front

abbrev pub kind_number : Kind → ℕ
kind_number kind.Head = 1
kind_number kind.Entry = 2
kind_number kind.Tie = 3
kind_number kind.End = 4

-- the kind with this number, if there is one
abbrev pub KindRead : ℕ → Result Kind FileRefusal → Type 0
KindRead n r = MatchResult r (λ kind. kind_number kind ≡ n) (λ refusal. (refusal ≡ UnknownKind) × ¬ KnownKind n)

pub record Frame (bytes : List ℕ) (found : Kind × Bor (List ℕ)) : Type 0 where
  pub whole : Whole bytes
  pub kind : kind_number found.0 ≡ kind_of bytes
  pub payload : found.1.now ≡ payload_of bytes
  pub long : 4 + length found.1.now ≡ length_of bytes

abbrev pub RecordIn : List ℕ → Record → Type 0
RecordIn bytes (Head payload) = (kind_of bytes ≡ 1) × (payload.now ≡ payload_of bytes)
RecordIn bytes (Entry name) = (kind_of bytes ≡ 2) × (name.now ≡ payload_of bytes)
RecordIn bytes (Tie payload) = (kind_of bytes ≡ 3) × (payload.now ≡ payload_of bytes)
RecordIn bytes (End payload) = (kind_of bytes ≡ 4) × (payload.now ≡ payload_of bytes)

pub record Front (bytes : List ℕ) (found : Record × ℕ) : Type 0 where
  pub whole : Whole bytes
  pub is : RecordIn bytes found.0
  pub long : found.1 ≡ length_of bytes

-- why there is none
abbrev pub NoFront : List ℕ → FileRefusal → Type 0
NoFront bytes Unfinished = length bytes ≡ 0
NoFront bytes Cut = (length bytes ≢ 0) × ¬ Whole bytes
NoFront bytes UnknownKind = Whole bytes × ¬ KnownKind (kind_of bytes)
NoFront bytes TooShort = ⊥
NoFront bytes Occupied = ⊥
NoFront bytes Trailing = ⊥
NoFront bytes Misplaced = ⊥
NoFront bytes WrongLength = ⊥
NoFront bytes OtherStamp = ⊥
NoFront bytes WrongCount = ⊥

-- why a head's payload has no stamp
abbrev pub NoStamp : List ℕ → FileRefusal → Type 0
NoStamp payload WrongLength = length payload ≢ 10
NoStamp payload OtherStamp = (length payload ≡ 10) × (take 4 payload ≡ mark → slice_index payload 4 ≢ 1)
NoStamp payload TooShort = ⊥
NoStamp payload Occupied = ⊥
NoStamp payload Trailing = ⊥
NoStamp payload Unfinished = ⊥
NoStamp payload Cut = ⊥
NoStamp payload UnknownKind = ⊥
NoStamp payload Misplaced = ⊥
NoStamp payload WrongCount = ⊥

-- ---- one step of the loader

abbrev pub asked_by : Option Call → Option Ask
asked_by (Some call) = Some (ask_of call)
asked_by None = None

-- how many ties there are with a record of this kind
abbrev pub ties_with : ℕ → ℕ → ℕ
ties_with kind ties = cond (kind == 3) (ties + 1) ties

-- a head comes first, and only where no entry stands
abbrev pub Fresh : Loader → ℕ → Type 0
Fresh s entries = s.expected ≡ expected.Head → entries ≡ 0

-- from s to t by the record at the front: what it asks, and its length
pub record Step (stamp : Stamp) (entries : ℕ) (bytes : List ℕ) (s t : Loader) (found : Option Call × ℕ) : Type 0 where
  pub kept : Fresh s entries → Kept (λ found. found ≡ stamp) s.expected entries s.ties bytes
  pub whole : Whole bytes
  pub asked : ask_in (kind_of bytes) (payload_of bytes) ≡ asked_by found.0
  pub long : found.1 ≡ length_of bytes
  pub next : t.expected ≡ following (kind_of bytes)
  pub counted : t.ties ≡ ties_with (kind_of bytes) s.ties

abbrev pub NoStep : Stamp → ℕ → List ℕ → Loader → FileRefusal → Type 0
NoStep stamp entries bytes s refusal =
    Fresh s entries → Broken (λ found. found ≡ stamp) s.expected entries s.ties bytes refusal
