-- The numbers are computed from the meanings, and the links are proved.
use Rattle.std.proofs.Common.{refl}
use Rattle.algebra.specs.Masks.{has, union}
use Rattle.algebra.specs.Meaning.{compositions}
use Rattle.algebra.specs.House.{those, kept}
use Rattle.known_answers.proofs.Linking.{over_greater, not_over_smaller}
use Rattle.known_answers.proofs.Settling.{settles, settles_less}
use Rattle.known_answers.proofs.known_answers.Goals as goal

pub returns : goal.returns
unfolding has union compositions those kept
returns c = record {
  numbers = record {
    instants_less = (c.compose.ensures, refl);
    meets_during = (c.compose-2.ensures, refl);
    overlaps_twice = (c.compose-3.ensures, refl);
    part_whole = (c.compose-4.ensures, refl);
    whole_part = (c.compose-5.ensures, refl);
    one_sided = (c.universe.ensures, refl);
  };
  links = record {
    over_greater = over_greater;
    not_over_smaller = not_over_smaller;
    settles = settles;
    settles_less = settles_less;
  };
}
