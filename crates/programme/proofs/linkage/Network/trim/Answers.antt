-- Two cells, and the pair pending.
use Rattle.std.proofs.Common.{sum, sum_by, ℕ, ◌<◌, List, [], length, get_or, ap, ◌∙◌, arith, rules}
use borrow.Author.Rules.{Below-row}
use Rattle.programme.specs.Networks.{cell}
use Rattle.programme.specs.Steps.{pending_at, weight}
use Rattle.programme.proofs.Cells.{cut_by}
use Rattle.programme.proofs.linkage.Network.trim.Goals as goal

pub returns : goal.returns
unfolding pending_at weight
returns c =
    let s = c.args.self.now in
    let i = c.args.i in
    let j = c.args.j in
    let p = c.pend.ensures in
    let hi : i < length s.sets = search rules in
    let hj : j < length s.sets = search rules in
    let ki : j < length (get_or s.sets i []) = search (rules, Below-row) in
    let kj : i < length (get_or s.sets j []) = search (rules, Below-row) in
    let w = cut_by s.sets i j c.args.there c.args.back hi hj ki kj in
    let at : ℕ → ℕ → List (List ℕ) → ℕ = λ x y rows. cell rows x y in
    record {
      links = p.links;
      on = λ n. ap (at i j) p.sets ∙ w.on n;
      across = λ n. ap (at j i) p.sets ∙ w.across n;
      off = λ x y n. ap (at x y) p.sets ∙ w.off x y n;
      waits = p.there;
      waits_more = p.more;
      waits_only = p.only;
      lighter = λ l. let a = w.lighter l in let b = ap (sum_by sum) p.sets in omega arith;
    }
