-- One entry more, from the greatest down.
use Rattle.std.proofs.Common.{◌+◌, ◌-◌, arith}
use Rattle.programme.proofs.Growth.{filled_more, full_more, full_at}
use Rattle.programme.proofs.linkage.Network.fill.Goals as goal

pub loop-k-preserved : goal.loop-k-preserved
loop-k-preserved c =
    let s = c.args.self.now in
    let t = c.loop-k.self in
    let u = c.link_below.new.self in
    let k = c.loop-k.k - 1 in
    let full = full_at c.loop-k.k (k + 1) t (omega arith) c.loop-k.invariant.1 in (
      filled_more s t u k c.loop-k.invariant.0 full c.link_below.ensures.grown c.link_below.ensures.all,
      full_more s t u k c.loop-k.invariant.0 full c.link_below.ensures.grown c.link_below.ensures.all,
    )
