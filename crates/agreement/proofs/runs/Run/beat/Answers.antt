use Rattle.agreement.proofs.Beating.{beats_naming_lowest}
use Rattle.agreement.proofs.Naming.{first_stranger}
use Rattle.agreement.proofs.runs.Run.beat.Goals as goal

pub returns-clause-beats : goal.returns-clause-beats
returns-clause-beats g c =
    let run = c.args.self.now in
    beats_naming_lowest (g.P.Procedure.meaning run.procedure) run.clock c.args.table.now c.args.sheet.now c.args.heard.now c.close.result _ _ _ c.close.ensures

pub returns-clause-first : goal.returns-clause-first
returns-clause-first g c =
    let run = c.args.self.now in
    first_stranger (g.P.Procedure.meaning run.procedure) run.clock c.args.table.now c.args.sheet.now c.args.heard.now _ c.close.result _ _ _ c.close.ensures
