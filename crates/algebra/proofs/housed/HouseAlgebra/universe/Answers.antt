use Rattle.std.proofs.Common.{ap, ◌∙◌}
use lib.Bits.{bit_and, bit_or}
use Rattle.algebra.specs.HouseLaws.{universe_is}
use Rattle.algebra.proofs.housed.HouseAlgebra.universe.Goals as goal

pub returns : goal.returns
returns g c =
    let self = c.args.self.now in
    ap (λ x. bit_or 1 (bit_and self.mask x)) c.converse.ensures
    ∙ universe_is (g.B.Algebra.meaning self.below) (g.met.B.Algebra.lawful self.below) self.mask
