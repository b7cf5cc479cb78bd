use Rattle.std.proofs.Common.{ap, ◌∙◌}
use lib.Bits.{bit_and}
use Rattle.algebra.specs.Meaning.{composition_of}
use Rattle.algebra.specs.HouseLaws.{refine_is}
use Rattle.algebra.proofs.housed.HouseAlgebra.refine.Goals as goal

pub returns : goal.returns
returns g c =
    let self = c.args.self.now in
    let m = g.B.Algebra.meaning self.below in
    c.refine.ensures
    ∙ ap (λ k. bit_and (bit_and c.args.target k) (composition_of m (bit_and c.args.first k) (bit_and c.args.second k)))
    c.universe-kept.ensures
    ∙ refine_is m (g.met.B.Algebra.lawful self.below) self.mask c.args.target c.args.first c.args.second
