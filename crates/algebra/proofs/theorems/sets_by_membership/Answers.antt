use Rattle.std.proofs.Common.{ap}
use Rattle.algebra.specs.Masks.{has}
use Rattle.algebra.specs.Bits as bits
use Rattle.algebra.specs.Sets.{converse_by_membership, composition_by_membership}
use Rattle.algebra.proofs.theorems.sets_by_membership.Goals as goal

pub returns : goal.returns
returns c = record {
  equal = λ s t. (λ e k. ap (λ x. has x k) e, bits.same s t);
  converse = converse_by_membership;
  composition = composition_by_membership;
}
