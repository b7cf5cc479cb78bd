-- What every call keeps to: the ledger.
use Rattle.std.specs.Prelude.{◌≡◌, ℕ, Result}
use Rattle.algebra.specs.Meaning.{Meaning}
use Rattle.programme.specs.Ledgers.{Ledger, Ask, Answered, after, WhenRefused, WhenTried}
use Rattle.programme.specs.Shown.{Shows}
use Rattle.programme.specs.Timely.{Timely}
use Rattle.programme.specs.declared.refusals.Refusal.{Refusal}
use Rattle.programme.specs.declared.sheets.Sheet.{Sheet}

-- The answer r to what is asked on the sheet s is that of every ledger that s shows, and the sheet t then shows the ledger
-- after it. A refusal leaves the sheet itself as it was, and so does a try.
pub record Keeps (m : Meaning) (s : Sheet) (ask : Ask) (r : Result ℕ Refusal) (t : Sheet) : Type 0 where
  pub answered : (L : Ledger) → Shows m s L → Answered m L ask r
  pub timely : (L : Ledger) → Shows m s L → Timely m L ask r
  pub shown : (L : Ledger) → Shows m s L → Shows m t (after L ask r)
  pub refused : WhenRefused r (t ≡ s)
  pub tried : WhenTried ask (t ≡ s)
