-- The ledger: the plain record of what was taken, what it answers to each call, and the ledger after the call.
use Rattle.std.specs.Prelude.{◌≡◌, ℕ, ◌<◌, ◌≤◌, true, false, ◌⊎◌, List, [], ◌∷◌, ◌++◌, length, Ok, Err, Result, slice_index, slice_index_or}
use Rattle.algebra.specs.Masks.{has}
use Rattle.algebra.specs.Meaning.{Meaning}
use Rattle.network.specs.Ties.{Tie}
use Rattle.network.specs.Candidates.{Clash as Clashing}
use Rattle.network.specs.Closing.{adding}
use Rattle.programme.specs.Networks.{tie_of}
use Rattle.programme.specs.declared.refusals.Refusal.{Refusal}
use Rattle.programme.specs.declared.refusals.Refusal.TheVariants.{Misnamed, Unprintable, Known, Full, Absent}
use Rattle.programme.specs.declared.refusals.Refusal.TheVariants.{Same, Empty, Outside, Everything, Clash}

-- The ledger has the names and the ties that were taken, the newest last. Entry k has the name at place k.
pub record Ledger : Type 0 where
  pub names : List (List ℕ)
  pub ties : List Tie

abbrev pub blank : Ledger
blank = record { names = []; ties = [] }

-- what a call asks: to enter a name, to tie two entries by a mask, or to try that tie
pub data Ask : Type 0 where
  enter : List ℕ → Ask
  tie : ℕ → ℕ → ℕ → Ask
  attempt : ℕ → ℕ → ℕ → Ask

-- the number of each refusal
abbrev pub number : Refusal → ℕ
number Misnamed = 1
number Unprintable = 2
number Known = 3
number Full = 4
number Absent = 5
number Same = 6
number Empty = 7
number Outside = 8
number Everything = 9
number Clash = 10

-- a byte that does not print, or a space
abbrev pub Unseen : ℕ → Type 0
Unseen byte = (byte < 0x21) ⊎ (0x7E < byte)

-- why a name is refused
abbrev pub NameFault : Ledger → List ℕ → Refusal → Type 0
NameFault L name Misnamed = (length name ≡ 0) ⊎ (12 < length name)
NameFault L name Unprintable = (k : ℕ) × (k < length name) × Unseen (slice_index name k)
NameFault L name Known = (k : ℕ) × (k < length L.names) × (slice_index_or L.names k [] ≡ name)
NameFault L name Full = 48 ≤ length L.names
NameFault L name Absent = ⊥
NameFault L name Same = ⊥
NameFault L name Empty = ⊥
NameFault L name Outside = ⊥
NameFault L name Everything = ⊥
NameFault L name Clash = ⊥

-- why a tie is refused
abbrev pub TieFault : Meaning → Ledger → ℕ → ℕ → ℕ → Refusal → Type 0
TieFault m L first second mask Misnamed = ⊥
TieFault m L first second mask Unprintable = ⊥
TieFault m L first second mask Known = ⊥
TieFault m L first second mask Full = ⊥
TieFault m L first second mask Absent = (length L.names ≤ first) ⊎ (length L.names ≤ second)
TieFault m L first second mask Same = first ≡ second
TieFault m L first second mask Empty = mask ≡ 0
TieFault m L first second mask Outside = (r : ℕ) × (has mask r ≡ true) × (has m.universe r ≡ false)
TieFault m L first second mask Everything = mask ≡ m.universe
TieFault m L first second mask Clash = Clashing m (adding L.ties (tie_of first second mask))

-- the refusal applies to what is asked
abbrev pub Fault : Meaning → Ledger → Ask → Refusal → Type 0
Fault m L (enter name) refusal = NameFault L name refusal
Fault m L (tie first second mask) refusal = TieFault m L first second mask refusal
Fault m L (attempt first second mask) refusal = TieFault m L first second mask refusal

-- no refusal with a number below n applies
abbrev pub Below : Meaning → Ledger → Ask → ℕ → Type 0
Below m L ask n = (refusal : Refusal) → number refusal < n → ¬ Fault m L ask refusal

-- what is answered where nothing is refused: an entry's number, and 0 for a tie
abbrev pub reply : Ledger → Ask → ℕ
reply L (enter name) = length L.names
reply L (tie first second mask) = 0
reply L (attempt first second mask) = 0

-- the answer is the refusal with the smallest number that applies, and the reply if none does
abbrev pub Answered : Meaning → Ledger → Ask → Result ℕ Refusal → Type 0
Answered m L ask (Ok n) = (n ≡ reply L ask) × ((refusal : Refusal) → ¬ Fault m L ask refusal)
Answered m L ask (Err refusal) = Fault m L ask refusal × Below m L ask (number refusal)

-- the ledger with what is asked taken; a try leaves it as it is
abbrev pub taken : Ledger → Ask → Ledger
taken L (enter name) = record { names = L.names ++ (name ∷ []); ties = L.ties }
taken L (tie first second mask) = record { names = L.names; ties = adding L.ties (tie_of first second mask) }
taken L (attempt first second mask) = L

-- the ledger after an answer; a refusal leaves it as it is
abbrev pub after : Ledger → Ask → Result ℕ Refusal → Ledger
after L ask (Ok n) = taken L ask
after L ask (Err refusal) = L

-- P, if the answer is no refusal; and P, if it is one
abbrev pub WhenTaken : Result ℕ Refusal → Type 0 → Type 0
WhenTaken (Ok n) P = P
WhenTaken (Err refusal) P = Unit {0}

abbrev pub WhenRefused : Result ℕ Refusal → Type 0 → Type 0
WhenRefused (Ok n) P = Unit {0}
WhenRefused (Err refusal) P = P

abbrev pub WhenTried : Ask → Type 0 → Type 0
WhenTried (enter name) P = Unit {0}
WhenTried (tie first second mask) P = Unit {0}
WhenTried (attempt first second mask) P = P

-- a ledger has one answer to what is asked
abbrev pub OneAnswer : Type 0
OneAnswer =
    (m : Meaning) (L : Ledger) (ask : Ask) (these those : Result ℕ Refusal) →
    Answered m L ask these → Answered m L ask those → these ≡ those
