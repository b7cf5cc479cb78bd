-- Closing, from its beginning to its end.
use Rattle.network.proofs.Closing as closing
use Rattle.network.proofs.closing_settles.Goals as goal

pub returns : goal.returns
returns c = record {
  begins = closing.begins;
  starts = closing.starts;
  narrows = closing.narrowing;
  finishes = closing.finishing;
}
