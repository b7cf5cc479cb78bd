-- Numbers for the entries of a ledger, a group for each: whether the groups are things that meet the ties, and what that
-- says of the ties.
use Rattle.std.specs.Prelude.{◌≡◌, ℕ, ◌*◌, ◌<◌, ◌⊎◌, List, length, take, drop, Some, None, Ok, Err, Option, Result}
use Rattle.algebra.specs.Meaning.{Meaning}
use Rattle.algebra.specs.Things.{Relation, In as Between}
use Rattle.algebra.specs.Instants.{instants}
use Rattle.algebra.specs.Spans.{spans}
use Rattle.algebra.specs.Timed.{Group, InstantGroup, InstantGroupsStand, SpanGroup, SpanGroupsStand}
use Rattle.network.specs.Ties.{Tie, Among, Apart, Proper, Joins, Tied}
use Rattle.network.specs.Candidates.{Clash}
use Rattle.network.specs.Arrangements.{Arrangement, Meets}
use Rattle.programme.specs.Ledgers.{Ledger}
use Rattle.programme.specs.Shown.{Shows}
use Rattle.programme.specs.Pairs.{Before}
use Rattle.programme.specs.declared.fitting.Misfit.{Misfit}
use Rattle.programme.specs.declared.fitting.Misfit.TheVariants.{Miscounted, NoThing}
use Rattle.programme.specs.declared.sheets.Sheet.{Sheet}

-- the number of each misfit
abbrev pub misfit_number : Misfit → ℕ
misfit_number Miscounted = 11
misfit_number NoThing = 12

-- the group of entry i, where a thing has this many numbers: the groups stand one behind the other
abbrev pub group_at : ℕ → Group → ℕ → Group
group_at size numbers i = take size (drop (i * size) numbers)

-- there is a group for each entry, and no number more
abbrev pub Counted : ℕ → Ledger → Group → Type 0
Counted size L numbers = length numbers ≡ length L.names * size

-- the tie is met: the reading that stands from the group of its first entry to that of its second is in its mask
abbrev pub TieMet : ℕ → (ℕ → Relation Group) → Group → Tie → Type 0
TieMet size Stand numbers t =
    Between Stand t.mask (group_at size numbers t.first) (group_at size numbers t.second)

-- the pair is met: every tie that joins the two, one way round or the other, is
abbrev pub PairMet : ℕ → (ℕ → Relation Group) → Group → List Tie → ℕ → ℕ → Type 0
PairMet size Stand numbers ties i j = (t : Tie) → Among t ties → Joins t i j ⊎ Joins t j i → TieMet size Stand numbers t

-- a group for each entry, each of them a thing
pub record Grouped (size : ℕ) (Thing : Group → Type 0) (L : Ledger) (numbers : Group) : Type 0 where
  pub counted : Counted size L numbers
  pub things : (i : ℕ) → i < length L.names → Thing (group_at size numbers i)

module _ (size : ℕ) (Thing : Group → Type 0) (Stand : ℕ → Relation Group) where
  -- the numbers fit: they meet every tie
  pub record Fits (L : Ledger) (numbers : Group) : Type 0 where
    pub grouped : Grouped size Thing L numbers
    pub met : (t : Tie) → Among t L.ties → TieMet size Stand numbers t

  -- i and j are the first tied pair in rising order that is not met
  pub record FirstUnmet (L : Ledger) (numbers : Group) (i j : ℕ) : Type 0 where
    pub grouped : Grouped size Thing L numbers
    pub smaller : i < j
    pub tied : Tied L.ties i j
    pub unmet : ¬ PairMet size Stand numbers L.ties i j
    pub earlier : (a b : ℕ) → a < b → Before a b i j → Tied L.ties a b → PairMet size Stand numbers L.ties a b

  -- what a ledger answers to numbers: the first pair that is not met, and none where they fit
  abbrev pub Fitted : Ledger → Group → Result (Option (ℕ × ℕ)) Misfit → Type 0
  Fitted L numbers (Ok None) = Fits L numbers
  Fitted L numbers (Ok (Some (i, j))) = FirstUnmet L numbers i j
  Fitted L numbers (Err Miscounted) = ¬ Counted size L numbers
  Fitted L numbers (Err NoThing) =
      Counted size L numbers × ((i : ℕ) × (i < length L.names) × ¬ Thing (group_at size numbers i))

-- the readings that stand between the groups are an arrangement of the entries that meets the ties, so these do not clash
pub record Arranged (m : Meaning) (size : ℕ) (Stand : ℕ → Relation Group) (L : Ledger) (numbers : Group) : Type 0 where
  pub readings : ℕ → ℕ → ℕ
  pub stand : (i j : ℕ) → Apart (length L.names) i j →
      Stand (readings i j) (group_at size numbers i) (group_at size numbers j)
  pub arrangement : Arrangement m (length L.names) readings
  pub meets : Meets L.ties readings
  pub clear : ¬ Clash m L.ties

-- P, if the numbers fit
abbrev pub WhenFitting : Result (Option (ℕ × ℕ)) Misfit → Type 0 → Type 0
WhenFitting (Ok None) P = P
WhenFitting (Ok (Some pair)) P = Unit {0}
WhenFitting (Err misfit) P = Unit {0}

-- The answer r to numbers on the sheet s is that of every ledger that s shows, and no other is. Where the numbers fit they
-- arrange the entries.
pub record Fitting (m : Meaning) (size : ℕ) (Thing : Group → Type 0) (Stand : ℕ → Relation Group) (s : Sheet)
    (numbers : Group) (r : Result (Option (ℕ × ℕ)) Misfit) : Type 0 where
  pub told : (L : Ledger) → Shows m s L → Fitted size Thing Stand L numbers r
  pub only : (L : Ledger) → Shows m s L → (other : Result (Option (ℕ × ℕ)) Misfit) →
      Fitted size Thing Stand L numbers other → other ≡ r
  pub arranged : (L : Ledger) → Shows m s L → WhenFitting r (Arranged m size Stand L numbers)

-- numbers that fit a ledger of instants arrange its entries; the same of spans
abbrev pub InstantsArrange : Type 0
InstantsArrange =
    (L : Ledger) (numbers : Group) → Proper (length L.names) L.ties →
    Fits 1 InstantGroup InstantGroupsStand L numbers → Arranged instants 1 InstantGroupsStand L numbers

abbrev pub SpansArrange : Type 0
SpansArrange =
    (L : Ledger) (numbers : Group) → Proper (length L.names) L.ties →
    Fits 2 SpanGroup SpanGroupsStand L numbers → Arranged spans 2 SpanGroupsStand L numbers
