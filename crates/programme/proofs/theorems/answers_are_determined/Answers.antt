-- One answer, and one line of answers.
use Rattle.programme.proofs.Determined.{one_answer, one_line}
use Rattle.programme.proofs.theorems.answers_are_determined.Goals as goal

pub returns : goal.returns
returns c = record { answer = one_answer; line = one_line }
