use Rattle.std.proofs.Common.{rules}
use Rattle.quorum.proofs.Walks.{lowest_cleared, lowest_found}
use Rattle.quorum.proofs.members.MembersIterator.next.Goals as goal

pub returns-clause-steps : goal.returns-clause-steps
returns-clause-steps c =
    let s = c.args.self.now.left in
    let low = lowest_found s (search rules) (search rules) in
    (low, lowest_cleared s _ low)
