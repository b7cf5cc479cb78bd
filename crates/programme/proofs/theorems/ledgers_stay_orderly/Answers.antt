-- From the blank ledger on.
use Rattle.programme.proofs.Growing.{blank_orderly, after_orderly}
use Rattle.programme.proofs.theorems.ledgers_stay_orderly.Goals as goal

pub returns : goal.returns
returns c = record { blank = blank_orderly; answer = after_orderly }
