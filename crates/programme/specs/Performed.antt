-- Lines of calls: what a whole line is answered, and what it leads to.
use Rattle.std.specs.Prelude.{◌≡◌, ℕ, List, [], ◌∷◌, Result}
use Rattle.algebra.specs.Meaning.{Meaning}
use Rattle.network.specs.Links.{Linked}
use Rattle.programme.specs.Networks.{cell}
use Rattle.programme.specs.Ledgers.{Ledger, blank, Ask, enter, tie, attempt, after}
use Rattle.programme.specs.Shown.{Shows}
use Rattle.programme.specs.Kept.{Keeps}
use Rattle.programme.specs.Questions.{SettledSet}
use Rattle.programme.specs.declared.lines.Call.{Call}
use Rattle.programme.specs.declared.lines.Call.TheVariants.{Entry, Tie, Try}
use Rattle.programme.specs.declared.refusals.Refusal.{Refusal}
use Rattle.programme.specs.declared.sheets.Sheet.{Sheet}

-- what a call asks
abbrev pub ask_of : Call → Ask
ask_of (Entry name) = enter name.now
ask_of (Tie t) = tie t.first t.second t.mask
ask_of (Try t) = attempt t.first t.second t.mask

-- A stage of a line: the sheet shows the ledger, and has on each link what the ties taken so far settle.
pub record Stage (m : Meaning) (s : Sheet) (L : Ledger) : Type 0 where
  pub shown : Shows m s L
  pub settled : (i j : ℕ) → Linked L.ties i j → SettledSet m L i j (cell s.network.sets i j)

-- What is asked in turn on the sheet s, which shows the ledger L, is answered in turn, and leads to the sheet u and the
-- ledger K. There is a stage at the opening and after each call, and each call keeps to the ledger.
pub data Performed (m : Meaning) : Sheet → Ledger → List Ask → List (Result ℕ Refusal) → Sheet → Ledger → Type 0 where
  ended : {s : Sheet} {L : Ledger} → Stage m s L → Performed m s L [] [] s L
  next : {s t u : Sheet} {L K : Ledger} {ask : Ask} {r : Result ℕ Refusal} {asks : List Ask} {answers : List (Result ℕ Refusal)} →
      Stage m s L → Keeps m s ask r t → Performed m t (after L ask r) asks answers u K →
      Performed m s L (ask ∷ asks) (r ∷ answers) u K

-- what is asked in turn from the opening on is answered in turn, and leads to the sheet u
abbrev pub FromBlank : Meaning → List Ask → List (Result ℕ Refusal) → Sheet → Type 0
FromBlank m asks answers u = (s : Sheet) × (K : Ledger) × Performed m s blank asks answers u K

-- a line leads from a ledger to one list of answers and one ledger
abbrev pub OneLine : Type 0
OneLine =
    (m : Meaning) (L M N : Ledger) (asks : List Ask) (these those : List (Result ℕ Refusal)) (s t u v : Sheet) →
    Performed m s L asks these t M → Performed m u L asks those v N → (these ≡ those) × (M ≡ N)
