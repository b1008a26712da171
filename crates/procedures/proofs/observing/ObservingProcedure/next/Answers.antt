use Rattle.procedures.proofs.UniformRound.{follows_uniform}
use Rattle.procedures.proofs.observing.ObservingProcedure.next.Goals as goal

pub returns-clause-published : goal.returns-clause-published
returns-clause-published g c =
    let rule = c.args.self.now.rule in
    follows_uniform g.met.V.Setup.ordered (g.R.Rule.family rule) (g.met.R.Rule.lawful rule) c.args.beat c.args.slip.now c.next_slip.result c.args.heard c.args.table.now c.next_slip.ensures
