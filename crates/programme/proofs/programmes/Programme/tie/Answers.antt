-- A tie that clashes.
use Rattle.std.proofs.Common.{refl}
use Rattle.std.proofs.lemmas.Result.{err_from_is_err_and}
use Rattle.programme.proofs.Keeping.{refused_keeps}
use Rattle.programme.proofs.programmes.Programme.tie.Goals as goal

pub returns-in_err-reply : goal.returns-in_err-reply
returns-in_err-reply g c =
    let p = err_from_is_err_and c.from_residual-in_err-reply.result c.from_residual-in_err-reply.ensures.1 in
    let told = c.in_err-reply.ensures in
    let m = g.B.Algebra.meaning c.args.self.now.algebra in
    record {
      lent = refl;
      kept =
          rw (p.1, p.2)
          (refused_keeps m c.args.self.now.sheet c.drop-attempt.new.self.0 c.args.asked.first c.args.asked.second
          c.args.asked.mask c.drop-attempt.ensures c.in_err-reply.field-0.0
          (λ L w. told.answered L w (c.in_ok-allowed.ensures.told L w)) told.timely);
    }
