use Rattle.procedures.specs.Laws.Fast.{at_most_one}
use Rattle.procedures.proofs.ThirdsRound.{follows_one_third}
use Rattle.procedures.proofs.fast.FastProcedure.next.Goals as goal

pub returns-clause-one : goal.returns-clause-one
returns-clause-one g c =
    let rule = c.args.self.now.rule in
    at_most_one g.met.V.Setup.ordered (g.R.Rule.family rule) (g.R.ClearView.clear rule) (g.met.R.ClearView.clear_lawful rule) c.args.heard c.args.table.now

pub returns-clause-published : goal.returns-clause-published
returns-clause-published g c =
    let rule = c.args.self.now.rule in
    follows_one_third g.met.V.Setup.ordered (g.R.Rule.family rule) (g.met.R.Rule.lawful rule) (g.R.ClearView.clear rule) (g.met.R.ClearView.clear_lawful rule)
    c.args.slip.now c.poll.result c.args.heard c.args.table.now c.poll.ensures
