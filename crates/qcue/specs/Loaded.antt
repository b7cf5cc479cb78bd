-- What a ledger answers to a file: the rules that each record keeps, and the records in turn.
use Rattle.std.specs.Prelude.{◌≡◌, ℕ, ◌+◌, ◌<◌, ◌≤◌, cond, ◌≢◌, List, length, take, Some, None, Ok, Err, Option, Result, ◌==◌, slice_index, slice_index_or}
use Rattle.algebra.specs.Meaning.{Meaning}
use Rattle.algebra.specs.declared.interface.Stamp.{Stamp}
use Rattle.programme.specs.Ledgers.{Ledger, Ask, enter, tie, Answered, taken}
use Rattle.programme.specs.Timely.{Timely}
use Rattle.programme.specs.declared.refusals.Refusal.{Refusal}
use Rattle.qcue.specs.Records.{u16_at, u32_at, length_of, kind_of, payload_of, behind, Whole, mark, stamp_in}
use Rattle.qcue.specs.declared.loading.Expected.{Expected}
use Rattle.qcue.specs.declared.loading.Expected.TheVariants.{Head, Entries, Ties, Nothing}
use Rattle.qcue.specs.declared.refusals.FileRefusal.{FileRefusal}
use Rattle.qcue.specs.declared.refusals.FileRefusal.TheVariants.{TooShort, Occupied, Trailing, Unfinished, Cut}
use Rattle.qcue.specs.declared.refusals.FileRefusal.TheVariants.{UnknownKind, Misplaced, WrongLength, OtherStamp, WrongCount}
use Rattle.qcue.specs.declared.refusals.Reason.TheVariants.{File, Sheet}
use Rattle.qcue.specs.declared.refusals.Fault.{Fault}

-- ---- the rules that a record keeps, whatever the sheet says

abbrev pub KnownKind : ℕ → Type 0
KnownKind kind = (1 ≤ kind) × (kind ≤ 4)

-- a record of this kind may come next: one head (1), entries (2), ties (3), one end (4), nothing
abbrev pub MayCome : Expected → ℕ → Type 0
MayCome Head kind = kind ≡ 1
MayCome Entries kind = (2 ≤ kind) × (kind ≤ 4)
MayCome Ties kind = (3 ≤ kind) × (kind ≤ 4)
MayCome Nothing kind = ⊥

-- a head, a tie and an end have one length each
pub record Sized (bytes : List ℕ) : Type 0 where
  pub head : kind_of bytes ≡ 1 → length_of bytes ≡ 14
  pub tied : kind_of bytes ≡ 3 → length_of bytes ≡ 10
  pub end : kind_of bytes ≡ 4 → length_of bytes ≡ 7

-- the payload has the mark and version 1, and a stamp as P says
pub record Marked (P : Stamp → Type 0) (payload : List ℕ) : Type 0 where
  pub marked : take 4 payload ≡ mark
  pub version : slice_index_or payload 4 0 ≡ 1
  pub stamp : P (stamp_in payload)

-- the payload counts the entries and ties
pub record Counts (entries ties : ℕ) (payload : List ℕ) : Type 0 where
  pub entries_are : slice_index_or payload 0 0 ≡ entries
  pub ties_are : u16_at payload 1 ≡ ties

-- The rule whose breach is the refusal, of the record at the front of the bytes: P says which stamps a head may have, x what
-- may come next, and that many entries and ties stand. A buffer that is too short breaks none of them.
abbrev pub Rule : (Stamp → Type 0) → Expected → ℕ → ℕ → List ℕ → FileRefusal → Type 0
Rule P x entries ties bytes TooShort = Unit {0}
Rule P x entries ties bytes Occupied = x ≡ Head → entries ≡ 0
Rule P x entries ties bytes Trailing = x ≢ Nothing
Rule P x entries ties bytes Unfinished = length bytes ≢ 0
Rule P x entries ties bytes Cut = Whole bytes
Rule P x entries ties bytes UnknownKind = KnownKind (kind_of bytes)
Rule P x entries ties bytes Misplaced = MayCome x (kind_of bytes)
Rule P x entries ties bytes WrongLength = Sized bytes
Rule P x entries ties bytes OtherStamp = kind_of bytes ≡ 1 → Marked P (payload_of bytes)
Rule P x entries ties bytes WrongCount = kind_of bytes ≡ 4 → Counts entries ties (payload_of bytes)

-- the order of the rules
abbrev pub rank : FileRefusal → ℕ
rank Occupied = 0
rank Trailing = 1
rank Unfinished = 2
rank Cut = 3
rank UnknownKind = 4
rank Misplaced = 5
rank WrongLength = 6
rank OtherStamp = 7
rank WrongCount = 8
rank TooShort = 9

-- every rule is kept
abbrev pub Kept : (Stamp → Type 0) → Expected → ℕ → ℕ → List ℕ → Type 0
Kept P x entries ties bytes = (refusal : FileRefusal) → Rule P x entries ties bytes refusal

-- the refusal's rule is the first that is broken
pub record Broken (P : Stamp → Type 0) (x : Expected) (entries ties : ℕ) (bytes : List ℕ) (refusal : FileRefusal) : Type 0 where
  pub breach : ¬ Rule P x entries ties bytes refusal
  pub first : (earlier : FileRefusal) → rank earlier < rank refusal → Rule P x entries ties bytes earlier

-- ---- what a record asks of the programme

-- an entry asks to enter its name, a tie to tie, another kind asks nothing
abbrev pub ask_in : ℕ → List ℕ → Option Ask
ask_in kind payload =
    cond (kind == 2) (Some (enter payload))
    (cond (kind == 3) (Some (tie (slice_index payload 0) (slice_index payload 1) (u32_at payload 2))) None)

-- what may come behind a record of this kind
abbrev pub following : ℕ → Expected
following kind = cond (kind == 4) Nothing (cond (kind == 3) Ties Entries)

-- how a ledger answers what is asked
abbrev pub Saying : Type 1
Saying = Ledger → Ask → Result ℕ Refusal → Type 0

-- the ledger after what a record asks, or the refusal of it, where S says how ledgers answer
abbrev pub Served : Saying → Ledger → Option Ask → Result Ledger Refusal → Type 0
Served S L None (Ok K) = K ≡ L
Served S L None (Err refusal) = ⊥
Served S L (Some ask) (Ok K) = (n : ℕ) × S L ask (Ok n) × (K ≡ taken L ask)
Served S L (Some ask) (Err refusal) = S L ask (Err refusal)

-- ---- the records in turn

-- the head must have the algebra's stamp, and what stands is what the ledger has
abbrev pub KeptBy : Meaning → Expected → Ledger → List ℕ → Type 0
KeptBy m x L bytes = Kept (λ stamp. stamp ≡ m.stamp) x (length L.names) (length L.ties) bytes

abbrev pub BrokenBy : Meaning → Expected → Ledger → List ℕ → FileRefusal → Type 0
BrokenBy m x L bytes refusal = Broken (λ stamp. stamp ≡ m.stamp) x (length L.names) (length L.ties) bytes refusal

-- From the ledger L, where x may come next at the offset and these bytes remain: the answer, and the ledger that the records
-- lead to. Each record is refused at its offset by the first rule that it breaks, else by the ledger, else it is taken.
pub data Loads (S : Saying) (m : Meaning) : Expected → Ledger → ℕ → List ℕ → Result ℕ Fault → Ledger → Type 0 where
  done : {x : Expected} {L : Ledger} {offset : ℕ} {bytes : List ℕ} → x ≡ Nothing → length bytes ≡ 0 →
      Loads S m x L offset bytes (Ok 0) L
  broken : {x : Expected} {L : Ledger} {offset : ℕ} {bytes : List ℕ} {refusal : FileRefusal} →
      (x ≡ Nothing → length bytes ≢ 0) → BrokenBy m x L bytes refusal →
      Loads S m x L offset bytes (Err (record { reason = File refusal; offset = offset })) L
  denied : {x : Expected} {L : Ledger} {offset : ℕ} {bytes : List ℕ} {refusal : Refusal} →
      KeptBy m x L bytes → Served S L (ask_in (kind_of bytes) (payload_of bytes)) (Err refusal) →
      Loads S m x L offset bytes (Err (record { reason = Sheet refusal; offset = offset })) L
  onward : {x : Expected} {L K J : Ledger} {offset : ℕ} {bytes : List ℕ} {r : Result ℕ Fault} →
      KeptBy m x L bytes → Served S L (ask_in (kind_of bytes) (payload_of bytes)) (Ok K) →
      Loads S m (following (kind_of bytes)) K (offset + length_of bytes) (behind bytes) r J →
      Loads S m x L offset bytes r J

-- the ledger that stands after a load: that of the file, or the one before if it was refused
abbrev pub standing : Ledger → Ledger → Result ℕ Fault → Ledger
standing L K (Ok n) = K
standing L K (Err fault) = L

-- a ledger answers, and on instants a clash is exact
abbrev pub Says : Meaning → Saying
Says m L ask r = Answered m L ask r × Timely m L ask r

-- a file has one answer, and leads to one ledger
abbrev pub OneLoad : Type 0
OneLoad =
    (m : Meaning) (x : Expected) (L K J : Ledger) (offset : ℕ) (bytes : List ℕ) (these those : Result ℕ Fault) →
    Loads (Answered m) m x L offset bytes these K → Loads (Answered m) m x L offset bytes those J → (these ≡ those) × (K ≡ J)
