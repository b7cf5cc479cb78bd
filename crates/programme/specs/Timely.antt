-- What ties of instants say of times.
use Rattle.std.specs.Prelude.{◌≡◌, ℕ, ◌↔◌, Err, Result}
use Rattle.algebra.specs.Meaning.{Meaning, Reading}
use Rattle.algebra.specs.Instants.{instants}
use Rattle.network.specs.Ties.{Different}
use Rattle.network.specs.Arrangements.{Times, TimesMeet}
use Rattle.network.specs.Closing.{adding}
use Rattle.programme.specs.Networks.{tie_of}
use Rattle.programme.specs.Ledgers.{Ledger, Ask, enter, tie, attempt, Below}
use Rattle.programme.specs.declared.refusals.Refusal.{Refusal}
use Rattle.programme.specs.declared.refusals.Refusal.TheVariants.{Clash}

-- the same readings, and the same converses and compositions of them
pub record Agrees (m n : Meaning) : Type 0 where
  pub universe : m.universe ≡ n.universe
  pub converse : (a : ℕ) → Reading m a → m.converse a ≡ n.converse a
  pub composition : (a b : ℕ) → Reading m a → Reading m b → m.composition a b ≡ n.composition a b

-- a tie of instants that has no other fault clashes exactly when no times meet the ties with it, unless some pair is then
-- given exactly 'earlier or later'
abbrev pub TimelyTie : Meaning → Ledger → ℕ → ℕ → ℕ → Result ℕ Refusal → Type 0
TimelyTie m L first second mask r =
    Agrees m instants → Below m L (tie first second mask) 10 → ¬ Different (adding L.ties (tie_of first second mask)) →
    (r ≡ Err Clash) ↔ ((time : Times) → ¬ TimesMeet (adding L.ties (tie_of first second mask)) time)

-- what an answer says of times
abbrev pub Timely : Meaning → Ledger → Ask → Result ℕ Refusal → Type 0
Timely m L (enter name) r = Unit {0}
Timely m L (tie first second mask) r = TimelyTie m L first second mask r
Timely m L (attempt first second mask) r = TimelyTie m L first second mask r
