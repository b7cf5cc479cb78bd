-- A turn for each pending pair, and the end.
use Rattle.programme.proofs.Turns.{turn_less, turned_ready, at_rest}
use Rattle.programme.proofs.linkage.Network.close.Goals as goal

pub loop-i-smaller : goal.loop-i-smaller
loop-i-smaller g c =
    turn_less c.loop-i.self c.take.new.self c.around.new.self c.in-Some.i c.in-Some.j
    c.in-Some.ensures c.around.ensures.moved

pub loop-i-preserved : goal.loop-i-preserved
loop-i-preserved g c ties r =
    let m = g.B.Algebra.meaning c.args.algebra.now in
    let law = g.met.B.Algebra.lawful c.args.algebra.now in
    turned_ready m law c.loop-i.self c.take.new.self c.around.new.self c.in-Some.i c.in-Some.j
    c.in-Some.ensures c.around.ensures.moved c.around.ensures.met ties (c.loop-i.invariant ties r)

pub returns : goal.returns
returns g c ties r =
    let m = g.B.Algebra.meaning c.args.algebra.now in
    let p = c.in_default.ensures in
    at_rest m ties c.loop-i.self (c.loop-i.invariant ties r) p.1 c.take.new.self p.0
