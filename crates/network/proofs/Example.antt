-- The example's net is settled.
use Rattle.std.proofs.Common.{refl, arith, lit<}
use mathlib.Core.List.Memᴰ
use Rattle.algebra.specs.Masks.{has, union}
use Rattle.algebra.specs.Meaning.{converses, compositions}
use Rattle.algebra.specs.Instants.{instants}
use Rattle.algebra.specs.Tests.{all, Each}
use Rattle.algebra.specs.InstantLaws.{instant_laws}
use Rattle.network.specs.Links.{Linked, tied, turned, filled}
use Rattle.network.specs.Candidates.{Net, ClosedCandidate}
use Rattle.network.specs.Example.{example_ties, example_net}
use Rattle.network.specs.Statements.{Inhabited}
use Rattle.network.proofs.Sets.{within}
use Rattle.network.proofs.Computed.{every, tie_passes, set_passes, Tested, Held, round, back, settled}

tested : Tested instants 3 example_ties example_net
unfolding every tie_passes set_passes all within has union converses compositions
tested = record { laws = instant_laws; on_ties = refl; on_sets = refl }

zero_two : Linked example_ties 0 2
zero_two = tied (Memᴰ.head refl)

two_one : Linked example_ties 2 1
two_one = tied (Memᴰ.tail (Memᴰ.head refl))

zero_one : Linked example_ties 0 1
zero_one = filled (λ e. omega arith) (lit< tt) (lit< tt) zero_two (turned two_one)

-- every closed candidate lies within the net: it has only '<' from 0 to 2 and from 2 to 1, and so from 0 to 1
module _ (D : Net) (c : ClosedCandidate instants example_ties D) where
  ahead : Held example_ties D example_net 0 2
  ahead x = c.under _ (Memᴰ.head refl)

  onward : Held example_ties D example_net 2 1
  onward x = c.under _ (Memᴰ.tail (Memᴰ.head refl))

  through : Held example_ties D example_net 0 1
  unfolding within has union compositions
  through = round tested c zero_two two_one ahead onward refl

  each : Each (λ j. Each (λ i. Held example_ties D example_net i j) j) 3
  each = ((back tested c onward, (ahead, tt)), ((through, tt), (tt, tt)))

pub inhabited : Inhabited
inhabited = (zero_one, settled tested each)
