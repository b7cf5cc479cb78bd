-- Spans that share some time stand as their starts and their ends do.
use Rattle.std.proofs.Common.{arith}
use Rattle.std.proofs.lemmas.Int.{ints, to_z-of_z}
use Rattle.algebra.proofs.span.between.Goals as goal

pub returns-else-to-start-2 : goal.returns-else-to-start-2
returns-else-to-start-2 c x y p q r s =
    let f = c.ranges.start in
    let g = c.ranges.end in
    let h = c.ranges.from in
    let k = c.ranges.to in
    c.overlapping.ensures x y (rw (p, r) (simp to_z-of_z at c.cmp.ensures)) (rw (q, s) (simp to_z-of_z at c.cmp-else-to-start-2.ensures))
    (omega (arith, ints)) (omega (arith, ints))
