-- One cell is cut.
use Rattle.std.proofs.Common.{◌<◌, [], length, get_or, refl, ap, ◌∙◌, rules}
use borrow.Author.Rules.{Below-row}
use lib.Bits.{bit_and}
use Rattle.programme.proofs.Giving.{cell_same, cell_other}
use Rattle.programme.proofs.sheets.Sheet.cut.Goals as goal

pub returns : goal.returns
returns c =
    let rows = c.args.self.now.given in
    let i = c.args.from in
    let j = c.args.to in
    let tall : i < length rows = search rules in
    let wide : j < length (get_or rows i []) = search (rules, Below-row) in
    record {
      entries = record { count = refl; names = refl };
      network = refl;
      there = cell_same rows i j _ tall wide ∙ ap (λ x. bit_and x c.args.mask) c.ground.ensures;
      others = cell_other rows i j _ tall;
    }
