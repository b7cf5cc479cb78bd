-- What it means that an algebra describes things of some kind: numbers, spans of time, or any other with one reading
-- between each two.
use Rattle.std.specs.Prelude.{◌≡◌, ℕ, zero, suc, true, ◌↔◌, List, [], ◌∷◌}
use Rattle.algebra.specs.Masks.{has}
use Rattle.algebra.specs.Meaning.{Meaning, Reading, converse_of, composition_of}

-- what may hold between two things
abbrev pub Relation : Type 0 → Type 1
Relation Thing = Thing → Thing → Type 0

-- things stand in reading k when the relation at place k of the list holds; past its end none does
abbrev pub nth : {Thing : Type 0} → List (Relation Thing) → ℕ → Relation Thing
nth [] k x y = ⊥
nth (r ∷ rs) zero x y = r x y
nth (r ∷ rs) (suc k) x y = nth rs k x y

abbrev pub flipped : {Thing : Type 0} → Relation Thing → Relation Thing
flipped r x y = r y x

-- The readings of m are those in which things stand, and converse and composition are what things show.
pub record Describes (m : Meaning) (Thing : Type 0) (Stand : ℕ → Relation Thing) : Type 0 where
  -- only readings of the universe stand, and each of them does somewhere
  pub reading : (a : ℕ) (x y : Thing) → Stand a x y → Reading m a
  pub somewhere : (a : ℕ) → Reading m a → (x y : Thing) × Stand a x y
  -- exactly one reading stands between two things
  pub between : (x y : Thing) → (a : ℕ) × Stand a x y
  pub only : (a b : ℕ) (x y : Thing) → Stand a x y → Stand b x y → a ≡ b
  -- reading 0 says that the two are one
  pub identity : (x y : Thing) → Stand 0 x y ↔ (x ≡ y)
  -- the other way the converse stands
  pub converse : (a : ℕ) (x y : Thing) → Stand a x y → Stand (m.converse a) y x
  -- c is in a∘b exactly when three things stand so
  pub composition : (a b c : ℕ) → Reading m a → Reading m b →
      (has (m.composition a b) c ≡ true) ↔ ((x y z : Thing) × Stand a x y × Stand b y z × Stand c x z)

-- the reading between x and y is in the set s
abbrev pub In : {Thing : Type 0} → (ℕ → Relation Thing) → ℕ → Relation Thing
In Stand s x y = (a : ℕ) × (has s a ≡ true) × Stand a x y

-- The same of sets.
pub record DescribesSets (m : Meaning) (Thing : Type 0) (Stand : ℕ → Relation Thing) : Type 0 where
  pub converse : (s c : ℕ) → (has (converse_of m s) c ≡ true) ↔ ((x y : Thing) × In Stand s x y × Stand c y x)
  pub composition : (s t c : ℕ) →
      (has (composition_of m s t) c ≡ true) ↔ ((x y z : Thing) × In Stand s x y × In Stand t y z × Stand c x z)
