use Rattle.std.proofs.Common.{◌<◌, [], ◌∷◌, ◌++◌, length, string_bytes, sym, ap, ◌∙◌, arith}
use Rattle.algebra.specs.Letters.{spelling_from}
use Rattle.algebra.proofs.Spelling.{spelling_took, spelling_left}
use Rattle.algebra.proofs.lettering.spelled.Goals as goal
use Rattle.algebra.proofs.lettering.spelled.Goals.{then-contains+in_ok-push, else-contains}

pub loop-k-init : goal.loop-k-init
unfolding spelling_from
loop-k-init c = c.new-text.ensures.bytes

pub loop-k-preserved : goal.loop-k-preserved
loop-k-preserved c =
    let xs = c.letters-alphabet.result.now in
    let k = c.loop-k.k in
    let h : k < length xs = omega arith in
    elim c.if-contains.branch [
      | then-contains+in_ok-push w ↦
          let low : w.from-then-contains.result < 128 = omega (arith, w.from-then-contains.ensures, c.letters-alphabet.ensures.ascii k h) in
          ap string_bytes w.text-is ∙ w.in_ok-push.ensures.bytes
          ∙ ap (λ t. string_bytes c.loop-k.text ++ t) (w.in_ok-push.ensures.ascii low ∙ ap (λ x. x ∷ []) w.from-then-contains.ensures)
          ∙ spelling_took xs _ k c.args.set h c.loop-k.invariant (rw (← c.from.ensures) (sym w.if-contains.ensures))
      | else-contains w ↦
          ap string_bytes w.text-is ∙ spelling_left xs _ k c.args.set h c.loop-k.invariant (rw (← c.from.ensures) (sym w.if-contains.ensures))
    ]
