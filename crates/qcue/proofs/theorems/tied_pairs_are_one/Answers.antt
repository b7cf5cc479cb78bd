-- One list of tied pairs.
use Rattle.qcue.proofs.Pairs.{one_list}
use Rattle.qcue.proofs.theorems.tied_pairs_are_one.Goals as goal

pub returns : goal.returns
returns c = one_list
