-- Instants and spans.
use Rattle.programme.proofs.Arranging.{instants_arrange, spans_arrange}
use Rattle.programme.proofs.theorems.fitting_numbers_arrange.Goals as goal

pub returns : goal.returns
returns c = record { instants = instants_arrange; spans = spans_arrange }
