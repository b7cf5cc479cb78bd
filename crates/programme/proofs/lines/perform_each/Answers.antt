-- One turn more.
use Rattle.std.proofs.Common.{refl, ap, ◌∙◌, arith, rules}
use Rattle.programme.specs.Line.{ended}
use Rattle.programme.proofs.Performing.{line_more}
use Rattle.programme.proofs.lines.perform_each.Goals as goal

pub loop-k-init : goal.loop-k-init
loop-k-init g c = (refl, ended)

pub loop-k-preserved : goal.loop-k-preserved
loop-k-preserved g c =
    let (same, line) = c.loop-k.invariant in (
      c.perform.ensures.lent ∙ same,
      line_more g.T.Turn.keeps _ _ _ _ _ _ _ _ _ _ (ap g.B.Algebra.meaning same) c.loop-k-test.true
          (omega (arith, c.loop-k.auto.answers, c.if-turns-answers.false)) (search rules) line c.perform.ensures.kept,
    )
