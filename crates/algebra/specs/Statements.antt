-- The theorems of this crate that speak of every lawful algebra.
use Rattle.std.specs.Prelude.{◌≡◌, ℕ, true, ◌↔◌, bit_and}
use Rattle.algebra.specs.Masks.{has}
use Rattle.algebra.specs.Meaning.{Meaning, Lawful, Reading, converse_of, composition_of}
use Rattle.algebra.specs.House.{housed}

-- masks are equal exactly when they have the same readings
abbrev pub EqualByMembership : Type 0
EqualByMembership = (s t : ℕ) → (s ≡ t) ↔ ((k : ℕ) → has s k ≡ has t k)

-- c is in the converse of s exactly when it is the converse of a reading of s
abbrev pub ConverseByMembership : Type 0
ConverseByMembership =
    (m : Meaning) → Lawful m → (s c : ℕ) →
    (has (converse_of m s) c ≡ true) ↔ ((a : ℕ) × Reading m a × (has s a ≡ true) × (m.converse a ≡ c))

-- c is in the composition of s and t exactly when some a of s and some b of t have c in a∘b
abbrev pub CompositionByMembership : Type 0
CompositionByMembership =
    (m : Meaning) → Lawful m → (s t c : ℕ) →
    (has (composition_of m s t) c ≡ true)
    ↔ ((a b : ℕ) × Reading m a × Reading m b × (has s a ≡ true) × (has t b ≡ true) × (has (m.composition a b) c ≡ true))

-- a house rule over a house rule is the one rule of both masks
abbrev pub HouseOverHouse : Type 0
HouseOverHouse =
    (m : Meaning) → Lawful m → (outer inner : ℕ) → housed (housed m inner) outer ≡ housed m (bit_and inner outer)
