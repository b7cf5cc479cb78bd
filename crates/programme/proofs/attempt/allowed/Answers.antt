-- A tie with a bit outside the universe, and one that is allowed.
use Rattle.std.proofs.Common.{◌^◌, ◌<◌, sym, ap, ◌∙◌, rules}
use lib.Bits.{bit_and}
use Rattle.programme.proofs.Refusing.{tie_outside, tie_ten}
use Rattle.programme.proofs.attempt.allowed.Goals as goal

pub returns-then-mask-universe-clause-told : goal.returns-then-mask-universe-clause-told
returns-then-mask-universe-clause-told g c L w =
    let fits : c.args.asked.mask < 2 ^ 32 = search rules in
    tie_outside _ L _ _ c.args.asked.mask _ w c.if-first-sheet.false c.if-second-sheet.false c.if-first-second.false
    c.if-mask-eq0.false fits (λ e. c.if-mask-universe.true (ap (bit_and c.args.asked.mask) c.universe-universe.ensures ∙ e))

pub returns-clause-told : goal.returns-clause-told
returns-clause-told g c L w =
    tie_ten _ L _ _ c.args.asked.mask _ w c.if-first-sheet.false c.if-second-sheet.false c.if-first-second.false
    c.if-mask-eq0.false (ap (bit_and c.args.asked.mask) (sym c.universe-universe.ensures) ∙ c.if-mask-universe.false)
    (λ e. c.if-mask-universe-2.false (e ∙ sym c.universe-universe.ensures))
