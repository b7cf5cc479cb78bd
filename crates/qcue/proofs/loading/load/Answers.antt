-- A programme with entries, a file that is refused, and one that loads.
use Rattle.std.proofs.Common.{◌≡◌, ap, rules}
use Rattle.std.proofs.lemmas.Result.{err_from_is_err_and}
use Rattle.qcue.proofs.Filing.{occupied, refused_keeps, loaded_keeps, takes_same}
use Rattle.qcue.proofs.loading.load.Goals as goal

pub returns-then-entries-ne0-clause-kept : goal.returns-then-entries-ne0-clause-kept
returns-then-entries-ne0-clause-kept g c =
    rw c.at.ensures (occupied _ _ _ _ c.entries.ensures.counted c.if-entries-ne0.true)

pub returns-in_err-answer-clause-kept : goal.returns-in_err-answer-clause-kept
returns-in_err-answer-clause-kept g c =
    let p = err_from_is_err_and c.from_residual.result c.from_residual.ensures.1 in
    let none : c.entries.result ≡ 0 = search rules in
    let copied = c.duplicate-copy.ensures in
    let last = c.take_all.new.programme.sheet in
    rw (p.1, p.2)
    (refused_keeps _ _ _ _ c.entries.ensures.counted none last _
    (takes_same _ _ _ _ _ last _ (ap g.B.Algebra.meaning copied.lent) copied.same c.in_err-answer.ensures.took))

pub returns-clause-kept : goal.returns-clause-kept
returns-clause-kept g c =
    let none : c.entries.result ≡ 0 = search rules in
    let copied = c.duplicate-copy.ensures in
    loaded_keeps _ _ _ _ c.entries.ensures.counted none _ _
    (takes_same _ _ _ _ _ _ _ (ap g.B.Algebra.meaning copied.lent) copied.same c.in_ok-answer.ensures.took)
