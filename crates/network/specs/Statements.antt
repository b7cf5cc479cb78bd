-- The theorems of this crate.
use Rattle.std.specs.Prelude.{◌≡◌, ℕ, ◌<◌, Bool, true, ◌≢◌, ◌↔◌, List, []}
use Rattle.algebra.specs.Meaning.{Meaning, Lawful}
use Rattle.algebra.specs.Instants.{instants}
use Rattle.network.specs.Ties.{In, Tie, Among, Proper, Given, Different}
use Rattle.network.specs.Links.{Linked}
use Rattle.network.specs.Candidates.{Net, Under, Closed, Settled, Emptied, Clash, Follows}
use Rattle.network.specs.Arrangements.{Arrangement, Meets, Times, TimesMeet}
use Rattle.network.specs.Closing.{adding, Started, Narrowed, Holding}
use Rattle.network.specs.Example.{example_ties, example_net}

-- a pair has one given set
abbrev pub OneGiven : Type 0
OneGiven =
    (m : Meaning) (ties : List Tie) (i j g h : ℕ) → Given m ties i j g → Given m ties i j h → g ≡ h

-- any set of pairs that has the ties, goes both ways and is filled in has every link
abbrev pub Least : Type 0
Least =
    (ties : List Tie) (L : ℕ → ℕ → Bool) →
    ((t : Tie) → Among t ties → L t.first t.second ≡ true) →
    ((i j : ℕ) → L i j ≡ true → L j i ≡ true) →
    ((i j k : ℕ) → i ≢ j → i < k → j < k → L i k ≡ true → L j k ≡ true → L i j ≡ true) →
    (i j : ℕ) → Linked ties i j → L i j ≡ true

-- every arrangement that meets the ties meets each settled link
abbrev pub Sound : Type 0
Sound =
    (m : Meaning) (n : ℕ) (ties : List Tie) (S : Net) (ρ : ℕ → ℕ → ℕ) →
    Lawful m → Proper n ties → Settled m ties S → Arrangement m n ρ → Meets ties ρ →
    (i j : ℕ) → Linked ties i j → In (ρ i j) (S i j)

-- two settled nets are equal on every link
abbrev pub Unique : Type 0
Unique =
    (m : Meaning) (ties : List Tie) (S T : Net) → Settled m ties S → Settled m ties T →
    (i j : ℕ) → Linked ties i j → S i j ≡ T i j

-- so any settled net shows whether the ties clash
abbrev pub ClashShows : Type 0
ClashShows = (m : Meaning) (ties : List Tie) (S : Net) → Settled m ties S → Clash m ties ↔ Emptied ties S

-- with no ties every net is settled
abbrev pub Begins : Type 0
Begins = (m : Meaning) (S : Net) → Settled m [] S

-- where closing starts with one tie more holds what closing keeps
abbrev pub Starts : Type 0
Starts =
    (m : Meaning) (ties : List Tie) (t : Tie) (S C : Net) →
    Lawful m → Settled m ties S → Started m ties t S C → Holding m (adding ties t) C

-- cutting a link by the composition of two links by way of a third entry keeps it
abbrev pub Narrowing : Type 0
Narrowing =
    (m : Meaning) (ties : List Tie) (i k j : ℕ) (C D : Net) →
    Lawful m → Linked ties i k → Linked ties k j → Linked ties i j →
    Narrowed m ties i k j C D → Holding m ties C → Holding m ties D

-- where nothing is left to cut the net is settled
abbrev pub Finishing : Type 0
Finishing = (m : Meaning) (ties : List Tie) (C : Net) → Holding m ties C → Closed m ties C → Settled m ties C

-- ties follow if they join linked pairs and the settled net is under them
abbrev pub Implied : Type 0
Implied =
    (m : Meaning) (less more : List Tie) (T : Net) →
    ((t : Tie) → Among t less → Linked more t.first t.second) → Settled m more T → Under less T →
    Follows m less more

-- ties that follow from others do not clash where those do not
abbrev pub Weaker : Type 0
Weaker =
    (m : Meaning) (less more : List Tie) (T : Net) →
    Follows m less more → Settled m more T → ¬ Clash m more → ¬ Clash m less

-- ties that follow from each other have the same settled nets
abbrev pub Alike : Type 0
Alike =
    (m : Meaning) (these those : List Tie) (S : Net) →
    Follows m these those → Follows m those these → Settled m those S → Settled m these S

-- instants: where no settled link is empty there are times, unless some pair is given exactly 'earlier or later'
abbrev pub Complete : Type 0
Complete =
    (n : ℕ) (ties : List Tie) (S : Net) → Proper n ties → ¬ Different ties → Settled instants ties S →
    ¬ Emptied ties S → (time : Times) × TimesMeet ties time

-- where there are times no settled link is empty
abbrev pub Consistent : Type 0
Consistent =
    (n : ℕ) (ties : List Tie) (S : Net) (time : Times) → Proper n ties → Settled instants ties S →
    TimesMeet ties time → ¬ Emptied ties S

-- so a settled link is empty exactly when no times meet the ties
abbrev pub Exact : Type 0
Exact =
    (n : ℕ) (ties : List Tie) (S : Net) → Proper n ties → ¬ Different ties → Settled instants ties S →
    Emptied ties S ↔ ((time : Times) → ¬ TimesMeet ties time)

-- the example's net is settled, and 0 and 1 are linked
abbrev pub Inhabited : Type 0
Inhabited = Linked example_ties 0 1 × Settled instants example_ties example_net
