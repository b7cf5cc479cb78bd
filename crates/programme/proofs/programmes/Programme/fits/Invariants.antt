-- No pair before this one is found that is not met.
use Rattle.std.proofs.Common.{◌≡◌, ◌+◌, None}
use Rattle.programme.proofs.Meeting.{ClearTo}
use Rattle.programme.proofs.programmes.Programme.fits.Given as goal

abbrev pub invariant-rows : goal.invariant-rows
invariant-rows g l =
    (l.first ≡ None)
    × ClearTo l.size (g.B.Timed.stand l.self.algebra) l.self.sheet l.numbers l.i (l.i + 1)

abbrev pub invariant-loop-j : goal.invariant-loop-j
invariant-loop-j g l =
    (l.first ≡ None)
    × ClearTo l.size (g.B.Timed.stand l.self.algebra) l.self.sheet l.numbers l.i l.j
