use Rattle.std.proofs.Common.{◌+◌, sym, subst, rules}
use lib.Bits.{bit_or}
use Rattle.std.proofs.lemmas.Nat.{one_shl}
use Rattle.algebra.specs.Letters.{Reads}
use Rattle.algebra.proofs.Spelling.{reads_none, reads_more}
use Rattle.algebra.proofs.lettering.set_of.Goals as goal

pub loop-x-init : goal.loop-x-init
loop-x-init c = reads_none c.args.code c.args.text.now

pub loop-x-preserved : goal.loop-x-preserved
loop-x-preserved c =
    subst (λ s. Reads c.args.code c.args.text.now (c.loop-x.x-index + 1) (bit_or c.loop-x.set s))
    (sym (one_shl c.in_ok-set.field-0 32 (search rules)))
    (reads_more c.args.code c.args.text.now c.loop-x.x-index c.loop-x.set c.in_ok-set.field-0 c.loop-x.invariant c.in_ok-set.ensures)
