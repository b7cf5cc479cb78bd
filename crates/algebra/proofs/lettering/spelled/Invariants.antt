use Rattle.std.proofs.Common.{◌≡◌, take, string_bytes}
use Rattle.algebra.specs.Letters.{spelling_from}
use Rattle.algebra.proofs.lettering.spelled.Given as goal

abbrev pub invariant-loop-k : goal.invariant-loop-k
invariant-loop-k l = string_bytes l.text ≡ spelling_from 0 (take l.k l.alphabet) l.set
