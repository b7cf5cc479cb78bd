use Rattle.algebra.specs.SpanLaws.{spans_describe, spans_describe_sets}
use Rattle.algebra.proofs.theorems.spans_describe_intervals.Goals as goal

pub returns : goal.returns
returns c = record { readings = spans_describe; sets = spans_describe_sets }
