-- The records in turn.
use Rattle.std.proofs.Common.{◌≡◌, ◌≢◌, length, Ok, Err, refl, ap, ◌∙◌, arith, rules}
use Rattle.std.proofs.lemmas.List.{take_rest}
use Rattle.std.proofs.lemmas.Result.{err_from_is_err_and}
use Rattle.qcue.specs.declared.loading.Expected.TheVariants.{Nothing}
use Rattle.qcue.specs.declared.refusals.Reason.{Reason}
use Rattle.qcue.proofs.Progress.{set_out, place_on, went_on, halted, trailing, finished}
use Rattle.qcue.proofs.loading.take_all.Goals as goal

pub loop-loader-init : goal.loop-loader-init
loop-loader-init g c =
    record { lent = refl; within = omega arith; few = omega arith; reached = λ L w e. set_out _ _ L _ _ refl refl w e }

pub loop-loader-preserved : goal.loop-loader-preserved
loop-loader-preserved g c =
    let is : c.take.result ≡ Ok c.in_ok-length.length = search rules in
    let told = rw is at c.take.ensures in
    let inv = c.loop-loader.invariant in
    let rest = take_rest c.loop-loader.rest.now c.in_ok-length.length in
    record {
      lent = told.lent ∙ inv.lent;
      within = place_on _ _ _ _ _ told.long.0 told.long.1 rest inv.within;
      few = omega (arith, told.long.0.long, told.long.1, told.few, inv.few);
      reached = λ L w e.
          went_on _ _ (ap g.B.Algebra.meaning inv.lent) _ _ L _ _ _ _ _ (inv.reached L w e) _ _ told.took told.long.1 rest;
    }

pub returns-in_err-length-clause-took : goal.returns-in_err-length-clause-took
returns-in_err-length-clause-took g c =
    let inv = c.loop-loader.invariant in
    let unended : c.loop-loader.loader.expected ≢ Nothing = search rules in
    let failed :
    (reason : Reason) × (c.take.result ≡ Err reason)
    × (c.in_err-length.field-0.0 ≡ record { reason = reason; offset = c.loop-loader.offset }) = search rules in
    let told = rw failed.1 at c.take.ensures in
    let p = err_from_is_err_and c.from_residual.result c.from_residual.ensures.1 in
    let last = c.take.new in
    rw (p.1, p.2, failed.2) (λ L w e.
    halted _ _ (ap g.B.Algebra.meaning inv.lent) _ last.programme.sheet L _ _ _ last.self _ (inv.reached L w e) failed.0
    unended told.took)

pub returns-then-not-is_empty-clause-took : goal.returns-then-not-is_empty-clause-took
returns-then-not-is_empty-clause-took g c =
    let inv = c.loop-loader.invariant in
    let ended : c.loop-loader.loader.expected ≡ Nothing = search rules in
    let some : length c.loop-loader.rest.now ≢ 0 = search rules in
    rw c.at.ensures (λ L w e. trailing _ _ L _ _ _ _ ended (inv.reached L w e) some)

pub returns-clause-took : goal.returns-clause-took
returns-clause-took g c =
    let inv = c.loop-loader.invariant in
    let ended : c.loop-loader.loader.expected ≡ Nothing = search rules in
    let none : length c.loop-loader.rest.now ≡ 0 = search rules in
    λ L w e. finished _ _ L _ _ _ _ ended (inv.reached L w e) none
