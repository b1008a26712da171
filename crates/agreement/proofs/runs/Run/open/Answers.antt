use Rattle.agreement.proofs.Promising.{promised}
use Rattle.agreement.proofs.runs.Run.open.Goals as goal

pub returns-in_err-clock-clause-promise : goal.returns-in_err-clock-clause-promise
returns-in_err-clock-clause-promise g c = promised g.met.V.Setup.ordered (g.P.Procedure.meaning c.args.procedure) (g.met.P.Procedure.lawful c.args.procedure)

pub returns-clause-promise : goal.returns-clause-promise
returns-clause-promise g c = promised g.met.V.Setup.ordered (g.P.Procedure.meaning c.args.procedure) (g.met.P.Procedure.lawful c.args.procedure)
