-- One record, taken or refused.
use Rattle.std.proofs.lemmas.Result.{err_from_is_err_and}
use Rattle.qcue.proofs.Steps.{refused, kept, performed, denied}
use Rattle.qcue.proofs.loading.Loader.take.Goals as goal

pub returns-in_err-asked-clause-took : goal.returns-in_err-asked-clause-took
returns-in_err-asked-clause-took g c =
    let p = err_from_is_err_and c.from_residual.result c.from_residual.ensures.1 in
    rw (p.1, p.2) (λ L w a.
    refused _ _ _ _ _ _ c.stamp.ensures c.entries.ensures.counted L w a _ c.in_err-asked.ensures)

pub returns-in_err-perform-clause-took : goal.returns-in_err-perform-clause-took
returns-in_err-perform-clause-took g c =
    let p = err_from_is_err_and c.from_residual-in_err-perform.result c.from_residual-in_err-perform.ensures.1 in
    let step = c.in_ok-asked.ensures in
    rw (p.1, p.2) (λ L w a. (
      kept _ _ _ _ _ _ c.stamp.ensures c.entries.ensures.counted L w a _ _ step,
      denied _ _ _ _ _ _ c.stamp.ensures c.entries.ensures.counted L w a _ _ step _ c.in-Some.is _ _ c.in_err-perform.ensures.kept,
    ))

pub returns-in_ok-perform-clause-took : goal.returns-in_ok-perform-clause-took
returns-in_ok-perform-clause-took g c = λ L w a. (
  _,
  performed _ _ _ _ _ _ c.stamp.ensures c.entries.ensures.counted L w a _ _ c.in_ok-asked.ensures _ c.in-Some.is _ _
      c.in_ok-perform.ensures.kept,
)
