use Rattle.std.proofs.Common.{rules}
use Rattle.algebra.proofs.Lowest.{lowest_of}
use Rattle.algebra.proofs.members.MembersIterator.next.Goals as goal

pub returns-clause-steps : goal.returns-clause-steps
returns-clause-steps c = lowest_of c.args.self.now.0 c.if-self-eq0.false (search rules)
