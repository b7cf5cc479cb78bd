-- The line, from the opening on.
use Rattle.std.proofs.Common.{ap}
use Rattle.programme.proofs.Performing.{from_blank}
use Rattle.programme.proofs.lines.run.Goals as goal

pub returns-clause-line : goal.returns-clause-line
returns-clause-line g c =
    let opened = c.open-programme.ensures in
    let all = c.perform_each.ensures.fits.1 c.if-calls-answers.false in
    from_blank _ _ _ _ _ _ (ap g.B.Algebra.meaning opened.lent) (g.met.B.Algebra.lawful _) opened.shown
    (c.perform_each.ensures.line all)
