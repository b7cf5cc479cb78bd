-- How ledgers grow: calls that are taken in turn, and what holds of every ledger that grew from the blank one.
use Rattle.std.specs.Prelude.{ℕ, ◌≢◌, List, [], ◌∷◌, map, Ok, Result}
use Rattle.algebra.specs.Meaning.{Meaning, Reading}
use Rattle.network.specs.Ties.{In, Tie, Among}
use Rattle.programme.specs.Ledgers.{Ledger, blank, Ask, enter, Answered, taken, after}
use Rattle.programme.specs.declared.refusals.Refusal.{Refusal}

-- what is asked in turn is taken, nothing is refused, and it leads from one ledger to another
pub data InTurn (m : Meaning) : Ledger → List Ask → Ledger → Type 0 where
  ended : {L : Ledger} → InTurn m L [] L
  next : {L K : Ledger} {ask : Ask} {n : ℕ} {asks : List Ask} → Answered m L ask (Ok n) → InTurn m (taken L ask) asks K →
      InTurn m L (ask ∷ asks) K

-- the ledger with these names and no ties
abbrev pub naming : List (List ℕ) → Ledger
naming names = record { names = names; ties = [] }

-- the mask has some of the universe's readings and no other, but not all of them
pub record Telling (m : Meaning) (mask : ℕ) : Type 0 where
  pub within : (r : ℕ) → In r mask → Reading m r
  pub part : mask ≢ m.universe

-- What holds of every ledger that grew from the blank one: its names could be entered in turn, and each tie tells something.
pub record Orderly (m : Meaning) (L : Ledger) : Type 0 where
  pub entered : InTurn m blank (map enter L.names) (naming L.names)
  pub telling : (t : Tie) → Among t L.ties → Telling m t.mask

-- calls lead to orderly ledgers alone: the blank one is orderly, and every answer leaves an orderly ledger
abbrev pub BlankOrderly : Type 0
BlankOrderly = (m : Meaning) → Orderly m blank

abbrev pub StaysOrderly : Type 0
StaysOrderly =
    (m : Meaning) (L : Ledger) (ask : Ask) (r : Result ℕ Refusal) → Orderly m L → Answered m L ask r → Orderly m (after L ask r)
