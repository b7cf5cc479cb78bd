-- One bit, in the row of the lower entry.
use Rattle.std.proofs.Common.{◌<◌, length, get_or, set, refl, ap, arith, rules}
use lib.Bits.{bit_or}
use Rattle.std.proofs.lemmas.Nat.{one_shl}
use Rattle.programme.proofs.Rows.{pended_by, pended_back}
use Rattle.programme.proofs.linkage.Network.pend.Goals as goal

pub returns-then-i-j : goal.returns-then-i-j
returns-then-i-j c =
    let s = c.args.self.now in
    let i = c.args.i in
    let j = c.args.j in
    let h : i < length s.pending = search rules in
    let l : j < 48 = c.requires.1 in
    pended_by s _ i j h refl refl
    (ap (λ x. set s.pending i (bit_or (get_or s.pending i 0) x)) (one_shl j 64 (omega arith)))

pub returns-else-i-j : goal.returns-else-i-j
returns-else-i-j c =
    let s = c.args.self.now in
    let i = c.args.i in
    let j = c.args.j in
    let h : j < length s.pending = search rules in
    let l : i < 48 = c.requires.0 in
    pended_back s _ i j (pended_by s _ j i h refl refl
    (ap (λ x. set s.pending j (bit_or (get_or s.pending j 0) x)) (one_shl i 64 (omega arith))))
