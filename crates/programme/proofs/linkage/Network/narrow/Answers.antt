-- A cut, or a side that was closed already.
use Rattle.std.proofs.Common.{◌≡◌, ◌≢◌, sym, refl, ◌∙◌, inl, inr}
use lib.Bits.{bit_and}
use Rattle.algebra.specs.Meaning.{composition_of}
use Rattle.programme.specs.Networks.{cell}
use Rattle.programme.specs.Steps.{Triangle}
use Rattle.programme.proofs.Moves.{move_none, narrowed, shut_by}
use Rattle.programme.proofs.linkage.Network.narrow.Goals as goal

pub returns-then-new-old : goal.returns-then-new-old
returns-then-new-old g c =
    let m = g.B.Algebra.meaning c.args.algebra.now in
    let s = c.args.self.now in
    let i = c.args.i in
    let k = c.args.k in
    let j = c.args.j in
    let new = c.refine-new.result in
    let round = composition_of m (cell s.sets i k) (cell s.sets k j) in
    let e : new ≡ bit_and (cell s.sets i j) round = cc in
    record {
      moved = move_none m (Triangle i k j) s;
      met = inr (refl, shut_by (cell s.sets i j) new round e (c.if-new-old.true ∙ c.set-old.ensures));
    }

pub returns : goal.returns
returns g c =
    let m = g.B.Algebra.meaning c.args.algebra.now in
    let law = g.met.B.Algebra.lawful c.args.algebra.now in
    let s = c.args.self.now in
    let i = c.args.i in
    let k = c.args.k in
    let j = c.args.j in
    let new = c.refine-new.result in
    let round = composition_of m (cell s.sets i k) (cell s.sets k j) in
    let e : new ≡ bit_and (cell s.sets i j) round = cc in
    let n : new ≢ cell s.sets i j = λ q. c.if-new-old.false (q ∙ sym c.set-old.ensures) in
    record {
      moved =
          narrowed m law s c.trim.new.self i k j new c.converse.result e c.converse.ensures n c.trim.ensures;
      met = inl c.trim.ensures.waits;
    }
