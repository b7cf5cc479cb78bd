-- What load keeps to, and lines of calls with loads among them: what a whole line is answered, and what it leads to.
use Rattle.std.specs.Prelude.{◌≡◌, ℕ, ◌↔◌, List, [], ◌∷◌, length, Ok, Err, Result}
use Rattle.algebra.specs.Meaning.{Meaning}
use Rattle.network.specs.Links.{Linked}
use Rattle.programme.specs.Networks.{cell}
use Rattle.programme.specs.Ledgers.{Ledger, blank, Ask, after, WhenRefused, WhenTried}
use Rattle.programme.specs.Grown.{Orderly}
use Rattle.programme.specs.Shown.{Shows}
use Rattle.programme.specs.Questions.{SettledSet}
use Rattle.programme.specs.Performed.{ask_of}
use Rattle.programme.specs.declared.sheets.Sheet.{Sheet}
use Rattle.qcue.specs.Loaded.{Loads, standing, Says}
use Rattle.qcue.specs.Held.{Loadable}
use Rattle.qcue.specs.declared.lines.Answer.{Answer}
use Rattle.qcue.specs.declared.lines.Answer.TheVariants as answer
use Rattle.qcue.specs.declared.lines.Request.{Request}
use Rattle.qcue.specs.declared.lines.Request.TheVariants as request
use Rattle.qcue.specs.declared.loading.Expected.TheVariants.{Head}
use Rattle.qcue.specs.declared.refusals.Fault.{Fault}

-- P, if the file is refused
abbrev pub WhenFaulty : Result ℕ Fault → Type 0 → Type 0
WhenFaulty (Ok n) P = Unit {0}
WhenFaulty (Err fault) P = P

-- The answer r to the bytes on the sheet s is that of every ledger that s shows, which steps through the records on a copy of
-- itself, and the sheet t then shows the ledger that stands. The file loads exactly when nothing stands yet and it is loadable.
pub record LoadKeeps (m : Meaning) (s : Sheet) (bytes : List ℕ) (r : Result ℕ Fault) (t : Sheet) : Type 0 where
  pub answered : (L : Ledger) → Shows m s L → (K : Ledger) × Loads (Says m) m Head L 0 bytes r K × Shows m t (standing L K r)
  pub exactly : (L : Ledger) → Shows m s L → (r ≡ Ok 0) ↔ ((length L.names ≡ 0) × (K : Ledger) × Loadable m bytes K)
  pub refused : WhenFaulty r (t ≡ s)

-- a turn of a line: a call, or the load of a file
pub data Turn : Type 0 where
  call : Ask → Turn
  load : List ℕ → Turn

abbrev pub turn_of : Request → Turn
turn_of (request.Call c) = call (ask_of c)
turn_of (request.Load bytes) = load bytes.now

-- the turn is answered on the ledger L, and K is the ledger then
abbrev pub Replied : Meaning → Ledger → Turn → Answer → Ledger → Type 0
Replied m L (call ask) (answer.Call r) K = Says m L ask r × (K ≡ after L ask r)
Replied m L (call ask) (answer.Load r) K = ⊥
Replied m L (load bytes) (answer.Call r) K = ⊥
Replied m L (load bytes) (answer.Load r) K = (J : Ledger) × Loads (Says m) m Head L 0 bytes r J × (K ≡ standing L J r)

-- P, if the turn is refused
abbrev pub WhenDenied : Answer → Type 0 → Type 0
WhenDenied (answer.Call r) P = WhenRefused r P
WhenDenied (answer.Load r) P = WhenFaulty r P

-- P, if the turn is a try
abbrev pub WhenAttempted : Turn → Type 0 → Type 0
WhenAttempted (call ask) P = WhenTried ask P
WhenAttempted (load bytes) P = Unit {0}

-- The answer to the turn on the sheet s is that of every ledger that s shows, and the sheet t then shows the ledger after it. A
-- refusal leaves the sheet itself as it was, and so does a try.
pub record TurnKeeps (m : Meaning) (s : Sheet) (turn : Turn) (r : Answer) (t : Sheet) : Type 0 where
  pub replied : (L : Ledger) → Shows m s L → (K : Ledger) × Replied m L turn r K × Shows m t K
  pub refused : WhenDenied r (t ≡ s)
  pub tried : WhenAttempted turn (t ≡ s)

-- A stage of a line: the sheet shows the ledger, which calls could lead to, and has on each link what the ties taken so far
-- settle.
pub record Stage (m : Meaning) (s : Sheet) (L : Ledger) : Type 0 where
  pub shown : Shows m s L
  pub orderly : Orderly m L
  pub settled : (i j : ℕ) → Linked L.ties i j → SettledSet m L i j (cell s.network.sets i j)

-- The turns on the sheet s, which shows the ledger L, are answered one by one, and lead to the sheet u and the ledger J. There
-- is a stage at the opening and after each turn, and each turn keeps to the ledger.
pub data Performed (m : Meaning) : Sheet → Ledger → List Turn → List Answer → Sheet → Ledger → Type 0 where
  ended : {s : Sheet} {L : Ledger} → Stage m s L → Performed m s L [] [] s L
  next : {s t u : Sheet} {L K J : Ledger} {turn : Turn} {r : Answer} {turns : List Turn} {answers : List Answer} →
      Stage m s L → TurnKeeps m s turn r t → Replied m L turn r K → Performed m t K turns answers u J →
      Performed m s L (turn ∷ turns) (r ∷ answers) u J

-- the turns from the opening on are answered one by one, and lead to the sheet u
abbrev pub FromBlank : Meaning → List Turn → List Answer → Sheet → Type 0
FromBlank m turns answers u = (s : Sheet) × (K : Ledger) × Performed m s blank turns answers u K

-- a line leads from a ledger to one list of answers and one ledger
abbrev pub OneLine : Type 0
OneLine =
    (m : Meaning) (L M N : Ledger) (turns : List Turn) (these those : List Answer) (s t u v : Sheet) →
    Performed m s L turns these t M → Performed m u L turns those v N → (these ≡ those) × (M ≡ N)
