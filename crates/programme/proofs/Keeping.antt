-- What calls keep to: ties that are refused.
use Rattle.std.proofs.Common.{◌≡◌, ℕ, Err}
use Rattle.algebra.specs.Meaning.{Meaning}
use Rattle.programme.specs.Ledgers.{Ledger, tie, Answered}
use Rattle.programme.specs.Shown.{Shows}
use Rattle.programme.specs.Timely.{TimelyTie}
use Rattle.programme.specs.Kept.{Keeps}
use Rattle.programme.specs.declared.refusals.Refusal.{Refusal}
use Rattle.programme.specs.declared.sheets.Sheet.{Sheet}

module _ (m : Meaning) (s t : Sheet) (i j mask : ℕ) (same : t ≡ s) where
  pub refused_keeps : (refusal : Refusal) → ((L : Ledger) → Shows m s L → Answered m L (tie i j mask) (Err refusal)) →
      ((L : Ledger) → Shows m s L → TimelyTie m L i j mask (Err refusal)) → Keeps m s (tie i j mask) (Err refusal) t
  refused_keeps refusal a d = record { answered = a; timely = d; shown = λ L w. rw same w; refused = same; tried = tt }
