use Rattle.procedures.proofs.LeaderlessRound.{follows_leaderless}
use Rattle.procedures.proofs.latest.LatestProcedure.next.Goals as goal

pub returns-clause-published : goal.returns-clause-published
returns-clause-published g c =
    let rule = c.args.self.now.rule in
    follows_leaderless g.met.V.Setup.ordered (g.R.Rule.family rule) (g.met.R.Rule.lawful rule) c.args.phase c.args.beat c.args.slip.now c.next_slip.result c.args.heard c.args.table.now c.next_slip.ensures
