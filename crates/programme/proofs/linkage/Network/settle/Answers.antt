-- From what the network reflected to where closing starts.
use Rattle.std.proofs.Common.{sym, ap, ◌∙◌, subst}
use lib.Bits.{bit_and}
use Rattle.network.specs.Closing.{adding}
use Rattle.programme.specs.Networks.{tie_of}
use Rattle.programme.specs.declared.linkage.Network.{Network}
use Rattle.programme.proofs.Growth.{grown_none}
use Rattle.programme.proofs.Starts.{Linking, Cutting, cutting, uncut, full_already, ready}
use Rattle.programme.proofs.linkage.Network.settle.Goals as goal
use Rattle.programme.proofs.linkage.Network.settle.Goals.{then-not-linked, else-not-linked, then-old-mask, else-old-mask}

pub returns : goal.returns
returns g c ties proper r =
    let m = g.B.Algebra.meaning c.args.algebra.now in
    let law = g.met.B.Algebra.lawful c.args.algebra.now in
    let i = c.args.asked.first in
    let j = c.args.asked.second in
    let s = c.args.self.now in
    let b = c.if-not-linked.self in
    let linking : Linking s b i j = elim c.if-not-linked.branch [
      | then-not-linked w ↦
          let L : Network → Type 0 = λ x. Linking s x i j in
          subst L (sym w.self-is) (record {
            paired = w.link.new.self;
            pair = w.link.ensures.grown;
            there = w.link.ensures.there;
            fill = w.fill.ensures.grown;
            full = w.fill.ensures.full;
          })
      | else-not-linked w ↦
          let L : Network → Type 0 = λ x. Linking s x i j in
          subst L (sym w.self-is) (record {
            paired = s;
            pair = grown_none _ s;
            there = sym c.linked.ensures ∙ w.if-not-linked.false;
            fill = grown_none _ s;
            full = full_already m law s ties r;
          })
    ] in
    let cut : Cutting m i j c.args.asked.mask b c.if-old-mask.self = elim c.if-old-mask.branch [
      | then-old-mask w ↦
          let C : Network → Type 0 = λ x. Cutting m i j c.args.asked.mask b x in
          subst C (sym w.self-is) (cutting m b _ i j c.args.asked.mask _ c.requires.1.1 w.converse.ensures w.trim.ensures)
      | else-old-mask w ↦
          let C : Network → Type 0 = λ x. Cutting m i j c.args.asked.mask b x in
          subst C (sym w.self-is)
          (uncut m law s ties r b i j c.args.asked.mask c.requires.0 c.requires.1.0 (linking.fill.sets ∙ linking.pair.sets)
          (ap (λ x. bit_and x c.args.asked.mask) (sym c.set-old.ensures) ∙ w.if-old-mask.false ∙ c.set-old.ensures))
    ] in
    c.close.ensures (adding ties (tie_of i j c.args.asked.mask))
    (ready m law s b _ i j c.args.asked.mask c.requires.0 c.requires.1.0 c.requires.1.1 linking cut ties proper r)
