-- Records: numbers in bytes, the record at the front of some bytes, and what a whole record is.
use Rattle.std.specs.Prelude.{ℕ, ◌+◌, ◌-◌, ◌*◌, ◌/◌, ◌%◌, ◌≤◌, List, [], ◌∷◌, length, take, drop, codes, slice_index}
use Rattle.algebra.specs.declared.interface.Stamp.{Stamp}
use Rattle.network.specs.Ties.{Tie}
use Rattle.programme.specs.Networks.{tie_of}

-- the number of 16 or 32 bits at a place, the low byte first
abbrev pub u16_at : List ℕ → ℕ → ℕ
u16_at bytes i = slice_index bytes i + slice_index bytes (i + 1) * 256

abbrev pub u32_at : List ℕ → ℕ → ℕ
u32_at bytes i =
    slice_index bytes i + slice_index bytes (i + 1) * 256 + slice_index bytes (i + 2) * 65536 + slice_index bytes (i + 3) * 16777216

-- a number as its bytes, the low byte first
abbrev pub le16 : ℕ → List ℕ
le16 n = n % 256 ∷ n / 256 % 256 ∷ []

abbrev pub le32 : ℕ → List ℕ
le32 n = n % 256 ∷ n / 256 % 256 ∷ n / 65536 % 256 ∷ n / 16777216 % 256 ∷ []

-- ---- the record at the front

-- the length that it gives of itself, and its kind
abbrev pub length_of : List ℕ → ℕ
length_of bytes = u16_at bytes 0

abbrev pub kind_of : List ℕ → ℕ
kind_of bytes = u16_at bytes 2

abbrev pub payload_of : List ℕ → List ℕ
payload_of bytes = take (length_of bytes - 4) (drop 4 bytes)

-- the bytes behind it
abbrev pub behind : List ℕ → List ℕ
behind bytes = drop (length_of bytes) bytes

-- it lies within the bytes
pub record Whole (bytes : List ℕ) : Type 0 where
  pub headed : 4 ≤ length bytes
  pub long : 4 ≤ length_of bytes
  pub inside : length_of bytes ≤ length bytes

-- ---- payloads

-- the four bytes that every file begins its first payload with
abbrev pub mark : List ℕ
mark = codes "QCUE"

-- the stamp in a head's payload, behind the mark and the version
abbrev pub stamp_in : List ℕ → Stamp
stamp_in payload = record { code = slice_index payload 5; house = u32_at payload 6 }

-- the tie in a tie's payload
abbrev pub tie_in : List ℕ → Tie
tie_in payload = tie_of (slice_index payload 0) (slice_index payload 1) (u32_at payload 2)
