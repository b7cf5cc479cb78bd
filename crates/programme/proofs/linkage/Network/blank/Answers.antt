-- No links, so no ties.
use Rattle.programme.proofs.Blank.{empty, blank_reflects}
use Rattle.programme.proofs.linkage.Network.blank.Goals as goal

pub returns : goal.returns
unfolding empty
returns c m e = blank_reflects m c.args.universe e
