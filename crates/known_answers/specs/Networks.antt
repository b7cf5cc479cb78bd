-- The answers about links that a person can work out by hand, from their definitions.
use Rattle.std.specs.Prelude.{◌≡◌, ℕ, List, [], ◌∷◌}
use Rattle.algebra.specs.Instants.{instants}
use Rattle.network.specs.Ties.{Tie}
use Rattle.network.specs.Links.{Linked}
use Rattle.network.specs.Candidates.{Net, Settled}

-- 0, 1 and 2 are each tied with 3
abbrev pub to_three : ℕ → ℕ → ℕ → List Tie
to_three a b c =
    record { first = 0; second = 3; mask = a } ∷
    record { first = 1; second = 3; mask = b } ∷
    record { first = 2; second = 3; mask = c } ∷ []

-- 1 and 2 are each tied with 0
abbrev pub to_zero : ℕ → ℕ → List Tie
to_zero a b = record { first = 0; second = 1; mask = a } ∷ record { first = 0; second = 2; mask = b } ∷ []

-- 1 is earlier than 0, 0 than 2, 1 than 3 and 2 than 3
abbrev pub in_turn : List Tie
in_turn =
    record { first = 1; second = 0; mask = 0x2 } ∷
    record { first = 0; second = 2; mask = 0x2 } ∷
    record { first = 1; second = 3; mask = 0x2 } ∷
    record { first = 2; second = 3; mask = 0x2 } ∷ []

-- what the definitions say of these ties
pub record KnownLinks : Type 0 where
  -- three entries that are tied with a greater one are linked with each other, whatever the masks
  pub over_greater : (a b c : ℕ) → Linked (to_three a b c) 0 1 × Linked (to_three a b c) 0 2 × Linked (to_three a b c) 1 2
  -- two entries that are tied with a smaller one are not linked, whatever the masks
  pub not_over_smaller : (a b : ℕ) → ¬ Linked (to_zero a b) 1 2
  -- instants: the ties in turn settle a net
  pub settles : (S : Net) × Settled instants in_turn S
  -- instants: every net that they settle has exactly `<` from 1 to 2
  pub settles_less : (S : Net) → Settled instants in_turn S → S 1 2 ≡ 0x2
