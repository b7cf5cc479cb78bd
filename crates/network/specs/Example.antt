-- An example on instants: three entries, two ties, three links.
use Rattle.std.specs.Prelude.{List, [], ◌∷◌}
use Rattle.algebra.specs.Tables.{composed}
use Rattle.network.specs.Ties.{Tie}
use Rattle.network.specs.Candidates.{Net}

-- 0 is earlier than 2, and 2 is earlier than 1
abbrev pub example_ties : List Tie
example_ties = record { first = 0; second = 2; mask = 0x2 } ∷ record { first = 2; second = 1; mask = 0x2 } ∷ []

-- so 0 is earlier than 1
abbrev pub example_net : Net
example_net = composed ((0x1 ∷ 0x2 ∷ 0x2 ∷ []) ∷ (0x4 ∷ 0x1 ∷ 0x4 ∷ []) ∷ (0x4 ∷ 0x2 ∷ 0x1 ∷ []) ∷ [])
