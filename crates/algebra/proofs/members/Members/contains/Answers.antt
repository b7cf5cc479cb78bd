use Rattle.std.proofs.Common.{eqb, ap, arith, rules}
use Rattle.std.proofs.lemmas.Nat.{and_mask}
use Rattle.std.proofs.lemmas.Bool.Decides.{nat_tests}
use Rattle.algebra.specs.Masks.{has}
use Rattle.algebra.specs.Bits.{has_past}
use Rattle.algebra.proofs.members.Members.contains.Goals as goal

pub returns-then-k-lt-WIDTH : goal.returns-then-k-lt-WIDTH
unfolding has
returns-then-k-lt-WIDTH c = ap (λ x. eqb x 1) (and_mask _ 1)

pub returns-else-k-lt-WIDTH : goal.returns-else-k-lt-WIDTH
returns-else-k-lt-WIDTH c =
    let past = has_past c.args.self.0 64 c.args.k (search rules) (omega arith) in rw past (grind (arith, nat_tests))
