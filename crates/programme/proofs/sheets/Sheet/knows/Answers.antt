-- `contains` of the names so far.
use Rattle.std.proofs.Common.{◌≤◌, length, rules}
use Rattle.programme.proofs.Spelling.{known_among}
use Rattle.programme.proofs.sheets.Sheet.knows.Goals as goal

pub returns : goal.returns
returns c =
    let names = c.args.self.now.names in
    let h : c.args.self.now.count ≤ length names = search rules in
    known_among names c.args.self.now.count c.args.name c.contains.result h c.contains.ensures.cases
