-- The groups are tested in turn.
use Rattle.std.proofs.Common.{rules}
use Rattle.programme.proofs.Grouping.{groups_tested}
use Rattle.programme.proofs.fitting.all_things.Goals as goal

pub returns : goal.returns
returns g c =
    let chunks = c.chunks_exact.ensures in
    let (all, other) =
    groups_tested _ _ _ c.args.size c.args.numbers.now c.all.result (g.B.Timed.thing c.args.algebra.now) c.requires
    chunks.size chunks.rest chunks.runs c.all.ensures.runs (λ a r f h. search rules) (λ x b h. search rules) in
    record { all = all; other = other }
