-- The low 48 bits of a row.
use Rattle.std.proofs.Common.{lit<}
use Rattle.algebra.specs.Bits.{has_cut, cut_has, has_below}
use Rattle.programme.proofs.Bits.{has_ones}
use Rattle.programme.proofs.linkage.Network.neighbours.Goals as goal

pub returns : goal.returns
returns c = record {
  only = λ j h. let p = has_cut _ 0xFFFF_FFFF_FFFF j h in (has_below 0xFFFF_FFFF_FFFF 48 j (lit< tt) p.1, p.0);
  all = λ j l h. cut_has _ 0xFFFF_FFFF_FFFF j h (has_ones 48 j l);
}
