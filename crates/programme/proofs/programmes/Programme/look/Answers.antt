-- What is seen of an entry from itself, and on a link.
use Rattle.std.proofs.Common.{arith}
use Rattle.programme.proofs.Looking.{seen_same, seen_link}
use Rattle.programme.proofs.programmes.Programme.look.Goals as goal

pub returns-then-first-second : goal.returns-then-first-second
returns-then-first-second g c L w =
    ((omega (arith, w.counted), omega (arith, w.counted)), seen_same _ _ L w _ _ c.if-first-second.true)

pub returns : goal.returns
returns g c L w =
    let law = g.met.B.Algebra.lawful c.args.self.now.algebra in (
      (omega (arith, w.counted), omega (arith, w.counted)),
      seen_link _ _ L w _ _ _ _ law c.if-first-second.false c.linked.ensures c.if-not-linked.false c.set.ensures,
    )
