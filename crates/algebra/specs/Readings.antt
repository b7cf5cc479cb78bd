-- The number of each named reading.
use Rattle.std.specs.Prelude.{ℕ}
use Rattle.algebra.specs.declared.instant.Reading.{Reading as Instant}
use Rattle.algebra.specs.declared.instant.Reading.TheVariants.{Equal, Earlier, Later}
use Rattle.algebra.specs.declared.span.Reading.{Reading as Span}
use Rattle.algebra.specs.declared.span.Reading.TheVariants.{Equals, Precedes, Preceded, Meets, Met, Overlaps, Overlapped}
use Rattle.algebra.specs.declared.span.Reading.TheVariants.{Starts, Started, During, Contains, Finishes, Finished}

abbrev pub instant_number : Instant → ℕ
instant_number Equal = 0
instant_number Earlier = 1
instant_number Later = 2

abbrev pub span_number : Span → ℕ
span_number Equals = 0
span_number Precedes = 1
span_number Preceded = 2
span_number Meets = 3
span_number Met = 4
span_number Overlaps = 5
span_number Overlapped = 6
span_number Starts = 7
span_number Started = 8
span_number During = 9
span_number Contains = 10
span_number Finishes = 11
span_number Finished = 12
