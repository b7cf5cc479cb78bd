-- Each side in turn.
use Rattle.programme.proofs.Moves.{sides_moved, sides_met}
use Rattle.programme.proofs.linkage.Network.triangle.Goals as goal

pub returns : goal.returns
returns g c =
    let m = g.B.Algebra.meaning c.args.algebra.now in
    let s = c.args.self.now in
    let t = c.narrow.new.self in
    let u = c.narrow-2.new.self in
    let v = c.narrow-3.new.self in
    let p = c.narrow.ensures in
    let q = c.narrow-2.ensures in
    let r = c.narrow-3.ensures in
    record {
      moved =
          sides_moved m s t u v c.args.i c.args.k c.args.j p.met q.met r.met
          p.moved q.moved r.moved;
      met =
          sides_met m s t u v c.args.i c.args.k c.args.j p.met q.met r.met
          p.moved q.moved r.moved;
    }
