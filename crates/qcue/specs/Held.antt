-- What a file holds: a stamp, names and ties, as records one behind the other.
use Rattle.std.specs.Prelude.{◌≡◌, ℕ, ◌+◌, ◌*◌, ◌↔◌, List, [], ◌∷◌, ◌++◌, map, length, Ok}
use Rattle.algebra.specs.Meaning.{Meaning}
use Rattle.algebra.specs.declared.interface.Stamp.{Stamp}
use Rattle.network.specs.Ties.{Tie}
use Rattle.programme.specs.Ledgers.{Ledger, blank, Ask, enter, tie, Answered}
use Rattle.programme.specs.Grown.{InTurn}
use Rattle.qcue.specs.Records.{tie_in}
use Rattle.qcue.specs.Loaded.{Marked, Counts, Loads}
use Rattle.qcue.specs.declared.loading.Expected.TheVariants.{Head}

-- The bytes are a record: the length of the whole and the kind, in two bytes each, the low byte first, and the payload.
pub record IsRecord (kind : ℕ) (payload bytes : List ℕ) : Type 0 where
  pub l0 : ℕ
  pub l1 : ℕ
  pub k0 : ℕ
  pub k1 : ℕ
  pub parts : bytes ≡ l0 ∷ l1 ∷ k0 ∷ k1 ∷ payload
  pub long : l0 + l1 * 256 ≡ length bytes
  pub told : k0 + k1 * 256 ≡ kind

-- a head with the stamp: mark, version and stamp in ten bytes
pub record HeadRecord (stamp : Stamp) (bytes : List ℕ) : Type 0 where
  pub payload : List ℕ
  pub is : IsRecord 1 payload bytes
  pub long : length payload ≡ 10
  pub marked : Marked (λ found. found ≡ stamp) payload

-- an entry with the name
abbrev pub EntryRecord : List ℕ → List ℕ → Type 0
EntryRecord name bytes = IsRecord 2 name bytes

-- a tie: two numbers in a byte each, and the mask in four
pub record TieRecord (t : Tie) (bytes : List ℕ) : Type 0 where
  pub payload : List ℕ
  pub is : IsRecord 3 payload bytes
  pub long : length payload ≡ 6
  pub tied : tie_in payload ≡ t

-- an end that counts entries in a byte and ties in two
pub record EndRecord (entries ties : ℕ) (bytes : List ℕ) : Type 0 where
  pub payload : List ℕ
  pub is : IsRecord 4 payload bytes
  pub long : length payload ≡ 3
  pub counted : Counts entries ties payload

-- the bytes are one record for each of the things, in their order
pub data Row {X : Type 0} (Of : X → List ℕ → Type 0) : List X → List ℕ → Type 0 where
  none : Row Of [] []
  more : {x : X} {xs : List X} {first rest bytes : List ℕ} → Of x first → Row Of xs rest → bytes ≡ first ++ rest →
      Row Of (x ∷ xs) bytes

-- The bytes hold the stamp, the names and the ties: one head, an entry for each name, a tie for each tie, and one end that
-- counts them.
pub record Holds (bytes : List ℕ) (stamp : Stamp) (names : List (List ℕ)) (ties : List Tie) : Type 0 where
  pub head : List ℕ
  pub entries : List ℕ
  pub bonds : List ℕ
  pub end : List ℕ
  pub parts : bytes ≡ head ++ (entries ++ (bonds ++ end))
  pub is_head : HeadRecord stamp head
  pub are_entries : Row EntryRecord names entries
  pub are_ties : Row TieRecord ties bonds
  pub is_end : EndRecord (length names) (length ties) end

-- what the names and ties of a file ask in turn
abbrev pub as_tie : Tie → Ask
as_tie t = tie t.first t.second t.mask

abbrev pub asks : List (List ℕ) → List Tie → List Ask
asks names ties = map enter names ++ map as_tie ties

-- the file keeps the layout, has the algebra's stamp, and its entries and ties would be taken one by one, which leads to K
pub record Loadable (m : Meaning) (bytes : List ℕ) (K : Ledger) : Type 0 where
  pub names : List (List ℕ)
  pub ties : List Tie
  pub holds : Holds bytes m.stamp names ties
  pub taken : InTurn m blank (asks names ties) K

-- a file loads into a blank ledger exactly when it is loadable
abbrev pub LoadsExactly : Type 0
LoadsExactly =
    (m : Meaning) (bytes : List ℕ) (K : Ledger) → Loads (Answered m) m Head blank 0 bytes (Ok 0) K ↔ Loadable m bytes K
