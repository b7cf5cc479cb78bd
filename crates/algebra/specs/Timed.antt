-- Things as groups of numbers: which groups are things, and which reading stands between two of them.
use Rattle.std.specs.Prelude.{◌≡◌, ℕ, true, ◌⊎◌, List, [], ◌∷◌, length, ℤ, Some, None, Option}
use Rattle.algebra.specs.Masks.{has}
use Rattle.algebra.specs.Meaning.{Meaning, Reading}
use Rattle.algebra.specs.Things.{Relation}
use Rattle.algebra.specs.Instants.{InstantsStand}
use Rattle.algebra.specs.Spans.{Span, SpansStand}

-- a group of numbers
abbrev pub Group : Type 0
Group = List ℤ

-- the group is that of a thing
abbrev pub IsThing : {Thing : Type 0} → (Thing → Group) → Group → Type 0
IsThing {Thing} numbers group = (x : Thing) × (group ≡ numbers x)

-- the two groups are those of things that stand in the reading a
abbrev pub GroupsStand : {Thing : Type 0} → (Thing → Group) → (ℕ → Relation Thing) → ℕ → Relation Group
GroupsStand {Thing} numbers Stand a first second =
    (x y : Thing) × (first ≡ numbers x) × (second ≡ numbers y) × Stand a x y

-- an instant is one number
abbrev pub instant_numbers : ℤ → Group
instant_numbers p = p ∷ []

abbrev pub InstantGroup : Group → Type 0
InstantGroup = IsThing instant_numbers

abbrev pub InstantGroupsStand : ℕ → Relation Group
InstantGroupsStand = GroupsStand instant_numbers InstantsStand

-- a span is two, its start and its end
abbrev pub span_numbers : Span → Group
span_numbers x = x.start ∷ x.end ∷ []

abbrev pub SpanGroup : Group → Type 0
SpanGroup = IsThing span_numbers

abbrev pub SpanGroupsStand : ℕ → Relation Group
SpanGroupsStand = GroupsStand span_numbers SpansStand

-- The groups that are things have this many numbers each, and the readings in which they stand are as the algebra means
-- them.
pub record Measured (m : Meaning) (size : ℕ) (Thing : Group → Type 0) (Stand : ℕ → Relation Group) : Type 0 where
  pub sized : (x : Group) → Thing x → length x ≡ size
  -- only readings of the universe stand, and exactly one stands between two things
  pub reading : (a : ℕ) (x y : Group) → Stand a x y → Reading m a
  pub between : (x y : Group) → Thing x → Thing y → (a : ℕ) × Stand a x y
  pub only : (a b : ℕ) (x y : Group) → Stand a x y → Stand b x y → a ≡ b
  -- the other way the converse stands
  pub converse : (a : ℕ) (x y : Group) → Stand a x y → Stand (m.converse a) y x
  -- what stands from x to z is in the composition of what stands from x to y and from y to z
  pub composition : (a b c : ℕ) (x y z : Group) → Stand a x y → Stand b y z → Stand c x z → has (m.composition a b) c ≡ true

-- a is the one reading that stands from first to second, and its converse stands the other way
pub record Stands (m : Meaning) (Stand : ℕ → Relation Group) (first second : Group) (a : ℕ) : Type 0 where
  pub reading : Reading m a
  pub stands : Stand a first second
  pub only : (b : ℕ) → Stand b first second → b ≡ a
  pub converse : Stand (m.converse a) second first

-- what is read from one group to another: nothing exactly where one of them is no thing
abbrev pub Reads : Meaning → (Group → Type 0) → (ℕ → Relation Group) → Group → Group → Option ℕ → Type 0
Reads m Thing Stand first second (Some a) = Thing first × Thing second × Stands m Stand first second a
Reads m Thing Stand first second None = (¬ Thing first) ⊎ (¬ Thing second)
