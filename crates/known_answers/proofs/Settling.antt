-- The ties in turn put 1, 0, 2 and 3 in this order.
use Rattle.std.proofs.Common.{◌≡◌, ℕ, [], ◌∷◌, refl, arith, lit<}
use mathlib.Core.List.Memᴰ
use Rattle.algebra.specs.Masks.{has, union}
use Rattle.algebra.specs.Meaning.{converses, compositions}
use Rattle.algebra.specs.Tables.{composed}
use Rattle.algebra.specs.Instants.{instants}
use Rattle.algebra.specs.Tests.{all, Each}
use Rattle.algebra.specs.InstantLaws.{instant_laws}
use Rattle.network.specs.Ties.{Among}
use Rattle.network.specs.Links.{Linked, tied, filled}
use Rattle.network.specs.Candidates.{Net, ClosedCandidate, Settled}
use Rattle.network.proofs.Sets.{within}
use Rattle.network.proofs.Nets.{unique}
use Rattle.network.proofs.Computed.{every, tie_passes, set_passes, Tested, Held, round, back, settled}
use Rattle.known_answers.specs.Networks.{in_turn}

abbrev ordered : Net
ordered =
    composed
    ((0x1 ∷ 0x4 ∷ 0x2 ∷ 0x2 ∷ []) ∷
    (0x2 ∷ 0x1 ∷ 0x2 ∷ 0x2 ∷ []) ∷
    (0x4 ∷ 0x4 ∷ 0x1 ∷ 0x2 ∷ []) ∷
    (0x4 ∷ 0x4 ∷ 0x4 ∷ 0x1 ∷ []) ∷ [])

tested : Tested instants 4 in_turn ordered
unfolding every tie_passes set_passes all within has union converses compositions
tested = record { laws = instant_laws; on_ties = refl; on_sets = refl }

tie_0 : Among (record { first = 1; second = 0; mask = 0x2 }) in_turn
tie_0 = Memᴰ.head refl

tie_1 : Among (record { first = 0; second = 2; mask = 0x2 }) in_turn
tie_1 = Memᴰ.tail (Memᴰ.head refl)

tie_2 : Among (record { first = 1; second = 3; mask = 0x2 }) in_turn
tie_2 = Memᴰ.tail (Memᴰ.tail (Memᴰ.head refl))

tie_3 : Among (record { first = 2; second = 3; mask = 0x2 }) in_turn
tie_3 = Memᴰ.tail (Memᴰ.tail (Memᴰ.tail (Memᴰ.head refl)))

one_two : Linked in_turn 1 2
one_two = filled (λ e. omega arith) (lit< tt) (lit< tt) (tied tie_2) (tied tie_3)

-- every closed candidate lies within the net: by way of 0 it has only '<' from 1 to 2
each : (D : Net) → ClosedCandidate instants in_turn D → Each (λ j. Each (λ i. Held in_turn D ordered i j) j) 4
unfolding within has union compositions
each D c = (
  (from tie_3, (from tie_2, (round tested c (tied tie_1) (tied tie_3) (from tie_1) (from tie_3) refl, tt))),
  (
    (round tested c (tied tie_0) (tied tie_1) (from tie_0) (from tie_1) refl, (from tie_1, tt)),
    ((back tested c (from tie_0), tt), (tt, tt)),
  ),
)
  where
    from : {i j : ℕ} → Among (record { first = i; second = j; mask = ordered i j }) in_turn → Held in_turn D ordered i j
    from a x = c.under _ a

settled_order : Settled instants in_turn ordered
settled_order = settled tested each

pub settles : (S : Net) × Settled instants in_turn S
settles = (ordered, settled_order)

pub settles_less : (S : Net) → Settled instants in_turn S → S 1 2 ≡ 0x2
settles_less S s = unique instants in_turn S ordered s settled_order 1 2 one_two
