-- Spans are described by their numbers.
use Rattle.algebra.proofs.GroupLaws.{spans_measured}
use Rattle.algebra.proofs.span.SpansTimed.numbers.Goals as goal

pub returns-clause-measured : goal.returns-clause-measured
returns-clause-measured c = spans_measured
