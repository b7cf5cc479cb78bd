use Rattle.std.proofs.Common.{ap, ◌∙◌}
use lib.Bits.{bit_and}
use Rattle.algebra.specs.Meaning.{composition_of}
use Rattle.algebra.specs.HouseLaws.{composition_is}
use Rattle.algebra.proofs.housed.HouseAlgebra.compose.Goals as goal

pub returns : goal.returns
returns g c =
    let self = c.args.self.now in
    let m = g.B.Algebra.meaning self.below in
    ap (λ x. bit_and x c.universe-kept.result) c.compose.ensures
    ∙ ap (λ k. bit_and (composition_of m (bit_and c.args.first k) (bit_and c.args.second k)) k) c.universe-kept.ensures
    ∙ composition_is m (g.met.B.Algebra.lawful self.below) self.mask c.args.first c.args.second
