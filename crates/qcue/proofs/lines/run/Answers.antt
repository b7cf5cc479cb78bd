-- One request more; the line, from the opening on.
use Rattle.std.proofs.Common.{refl, ap, ◌∙◌, arith, rules}
use Rattle.std.proofs.lemmas.List.{take_all}
use Rattle.programme.specs.Line.{ended}
use Rattle.programme.proofs.Performing.{line_more}
use Rattle.qcue.specs.Performed.{turn_of, TurnKeeps}
use Rattle.qcue.proofs.Performing.{from_blank}
use Rattle.qcue.proofs.lines.run.Goals as goal

pub loop-k-init : goal.loop-k-init
loop-k-init g c = (refl, ended)

pub loop-k-preserved : goal.loop-k-preserved
loop-k-preserved g c =
    let (same, line) = c.loop-k.invariant in (
      c.perform.ensures.lent ∙ same,
      line_more (λ m s request r t. TurnKeeps m s (turn_of request) r t) _ _ _ _ _ _ _ _ _ _ (ap g.B.Algebra.meaning same)
          c.loop-k-test.true (omega (arith, c.loop-k.auto.answers, c.if-requests-answers.false)) (search rules) line
          c.perform.ensures.kept,
    )

pub returns-clause-line : goal.returns-clause-line
returns-clause-line g c =
    let opened = c.open-programme.ensures in
    let asked = take_all c.loop-k.k c.args.requests.now c.loop-k-test.false in
    let told = take_all c.loop-k.k c.loop-k.answers (omega (arith, c.loop-k.auto.answers, c.if-requests-answers.false)) in
    from_blank _ _ _ _ _ _ (ap g.B.Algebra.meaning opened.lent) (g.met.B.Algebra.lawful _) opened.shown
    (rw (asked, told) at c.loop-k.invariant.1)
