-- The algebra of instants: whole numbers on a line (the point algebra).
use Rattle.std.specs.Prelude.{◌≡◌, ℕ, List, [], ◌∷◌, ℤ, ◌<ℤ◌}
use Rattle.algebra.specs.Meaning.{Meaning}
use Rattle.algebra.specs.Things.{Relation, nth, flipped}
use Rattle.algebra.specs.Tables.{tabled}

abbrev Equal : Relation ℤ
Equal p q = p ≡ q

abbrev Earlier : Relation ℤ
Earlier p q = p <ℤ q

-- the readings from 0 up: = < >
abbrev pub instant_relations : List (Relation ℤ)
instant_relations = Equal ∷ Earlier ∷ flipped Earlier ∷ []

abbrev pub InstantsStand : ℕ → Relation ℤ
InstantsStand = nth instant_relations

abbrev pub instant_converses : List ℕ
instant_converses = 0 ∷ 2 ∷ 1 ∷ []

abbrev pub instant_compositions : List (List ℕ)
instant_compositions =
    (0x1 ∷ 0x2 ∷ 0x4 ∷ []) ∷
    (0x2 ∷ 0x2 ∷ 0x7 ∷ []) ∷
    (0x4 ∷ 0x7 ∷ 0x4 ∷ []) ∷ []

abbrev pub instants : Meaning
instants = tabled 1 0x7 instant_converses instant_compositions
