-- What a ledger answers to the questions that change nothing.
use Rattle.std.specs.Prelude.{◌≡◌, ℕ, ◌<◌, ◌≤◌, ◌≢◌, ◌⊎◌, length, Some, None, Ok, Err, Option, Result}
use Rattle.algebra.specs.Meaning.{Meaning}
use Rattle.network.specs.Ties.{In, Tied, Given}
use Rattle.network.specs.Links.{Linked}
use Rattle.network.specs.Candidates.{Net, Settled}
use Rattle.network.specs.Arrangements.{Arrangement, Meets}
use Rattle.programme.specs.Ledgers.{Ledger}
use Rattle.programme.specs.declared.refusals.Refusal.{Refusal}
use Rattle.programme.specs.declared.refusals.Refusal.TheVariants.{Absent}

-- both are numbers of entries
abbrev pub Present : Ledger → ℕ → ℕ → Type 0
Present L first second = (first < length L.names) × (second < length L.names)

-- one of the two is no entry's number
abbrev pub Missing : Ledger → ℕ → ℕ → Type 0
Missing L first second = (length L.names ≤ first) ⊎ (length L.names ≤ second)

-- The set is what the ties settle from first to second: some net is settled, every settled net has this set there, and
-- every arrangement of the entries that meets the ties has its reading in it.
pub record SettledSet (m : Meaning) (L : Ledger) (first second set : ℕ) : Type 0 where
  pub one : (S : Net) × Settled m L.ties S
  pub every : (S : Net) → Settled m L.ties S → set ≡ S first second
  pub arranged : (ρ : ℕ → ℕ → ℕ) → Arrangement m (length L.names) ρ → Meets L.ties ρ → In (ρ first second) set

-- what is seen from first to second: reading 0 alone from an entry to itself, else what is settled if they are linked
pub record Seen (m : Meaning) (L : Ledger) (first second : ℕ) (seen : Option ℕ) : Type 0 where
  pub same : first ≡ second → seen ≡ Some 1
  pub linked : Linked L.ties first second → (set : ℕ) × (seen ≡ Some set) × SettledSet m L first second set
  pub unlinked : first ≢ second → ¬ Linked L.ties first second → seen ≡ None

abbrev pub Looked : Meaning → Ledger → ℕ → ℕ → Result (Option ℕ) Refusal → Type 0
Looked m L first second (Ok seen) = Present L first second × Seen m L first second seen
Looked m L first second (Err refusal) = (refusal ≡ Absent) × Missing L first second

-- the set is what the ties give from first to second
pub record Told (m : Meaning) (L : Ledger) (first second set : ℕ) : Type 0 where
  pub same : first ≡ second → set ≡ 0
  pub given : Given m L.ties first second set
  pub some : Tied L.ties first second → set ≢ 0

abbrev pub ToldAs : Meaning → Ledger → ℕ → ℕ → Result ℕ Refusal → Type 0
ToldAs m L first second (Ok set) = Present L first second × Told m L first second set
ToldAs m L first second (Err refusal) = (refusal ≡ Absent) × Missing L first second
