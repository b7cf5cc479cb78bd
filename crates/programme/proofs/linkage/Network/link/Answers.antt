-- Two bits, and the pair pending.
use Rattle.std.proofs.Common.{◌≡◌, ℕ, ◌^◌, ◌<◌, List, length, get_or, set, refl, ap₂, arith, rules}
use lib.Bits.{bit_or}
use Rattle.std.proofs.lemmas.Nat.{one_shl}
use Rattle.programme.proofs.Growth.{grown_pair, pair_there}
use Rattle.programme.proofs.linkage.Network.link.Goals as goal

pub returns : goal.returns
returns c =
    let s = c.args.self.now in
    let t = c.pend.new.self in
    let i = c.args.i in
    let j = c.args.j in
    let hi : i < length s.links = search rules in
    let hj : j < length s.links = search rules in
    let li : i < 48 = c.requires.0 in
    let lj : j < 48 = c.requires.1 in
    let one : ℕ → List ℕ = λ a. set s.links i (bit_or (get_or s.links i 0) a) in
    let two : ℕ → ℕ → List ℕ = λ a b. set (one a) j (bit_or (get_or (one a) j 0) b) in
    let e : two _ _ ≡ two (2 ^ j) (2 ^ i) = ap₂ two (one_shl j 64 (omega arith)) (one_shl i 64 (omega arith)) in
    record {
      grown = grown_pair s _ t i j hi hj e refl refl c.pend.ensures;
      there = pair_there s _ t i j hi hj e refl refl c.pend.ensures;
    }
