use Rattle.std.proofs.Common.{ap, ◌∙◌}
use lib.Bits.{bit_and}
use Rattle.algebra.specs.Meaning.{converse_of}
use Rattle.algebra.specs.HouseLaws.{converse_is}
use Rattle.algebra.proofs.housed.HouseAlgebra.converse.Goals as goal

pub returns : goal.returns
returns g c =
    let self = c.args.self.now in
    let m = g.B.Algebra.meaning self.below in
    ap (λ x. bit_and x c.universe-kept.result) c.converse.ensures
    ∙ ap (λ k. bit_and (converse_of m (bit_and c.args.set k)) k) c.universe-kept.ensures
    ∙ converse_is m (g.met.B.Algebra.lawful self.below) self.mask c.args.set
