-- What an algebra of readings means, what it says of sets, and the laws that it keeps.
use Rattle.std.specs.Prelude.{◌≡◌, ℕ, ◌^◌, ◌<◌, true, bit_and}
use Rattle.algebra.specs.Masks.{has, union}
use Rattle.algebra.specs.declared.interface.Stamp.{Stamp}

-- An algebra's meaning is one value.
pub record Meaning : Type 0 where
  -- the mask of the readings that there are
  pub universe : ℕ
  -- the converse of a reading
  pub converse : ℕ → ℕ
  -- the composition of two readings, a mask
  pub composition : ℕ → ℕ → ℕ
  pub stamp : Stamp

-- a is a reading of the algebra
abbrev pub Reading : Meaning → ℕ → Type 0
Reading m a = has m.universe a ≡ true

-- the converses of the readings of s, within the universe u
unfoldable pub converses : ℕ → (ℕ → ℕ) → ℕ → ℕ
converses u converse s = union (bit_and s u) (λ a. 2 ^ converse a) 32

-- the compositions of each reading of s with each reading of t, within the universe u
unfoldable pub compositions : ℕ → (ℕ → ℕ → ℕ) → ℕ → ℕ → ℕ
compositions u composition s t = union (bit_and s u) (λ a. union (bit_and t u) (composition a) 32) 32

-- the converse of a set, and the composition of two: a bit outside the universe counts as absent
abbrev pub converse_of : Meaning → ℕ → ℕ
converse_of m s = converses m.universe m.converse s

abbrev pub composition_of : Meaning → ℕ → ℕ → ℕ
composition_of m s t = compositions m.universe m.composition s t

-- The laws, for all readings a, b and c of the universe.
pub record Lawful (m : Meaning) : Type 0 where
  pub fits : m.universe < 2 ^ 32
  -- reading 0 is there and is its own converse; converses and compositions stay within the universe; turning twice gives
  -- the reading back
  pub identity_in : Reading m 0
  pub identity_converse : m.converse 0 ≡ 0
  pub converse_in : (a : ℕ) → Reading m a → Reading m (m.converse a)
  pub converse_twice : (a : ℕ) → Reading m a → m.converse (m.converse a) ≡ a
  pub composition_in : (a b c : ℕ) → Reading m a → Reading m b → has (m.composition a b) c ≡ true → Reading m c
  -- reading 0 is the identity of composition
  pub identity_left : (b : ℕ) → Reading m b → m.composition 0 b ≡ 2 ^ b
  pub identity_right : (b : ℕ) → Reading m b → m.composition b 0 ≡ 2 ^ b
  -- the Peircean law: c is in a∘b exactly when b is in a˘∘c, and exactly when a is in c∘b˘
  pub peirce_left : (a b c : ℕ) → Reading m a → Reading m b → Reading m c →
      has (m.composition a b) c ≡ has (m.composition (m.converse a) c) b
  pub peirce_right : (a b c : ℕ) → Reading m a → Reading m b → Reading m c →
      has (m.composition a b) c ≡ has (m.composition c (m.converse b)) a
