use Rattle.std.proofs.Common.{rules}
use Rattle.quorum.proofs.Found.{lowest_find}
use Rattle.agreement.specs.Calls.{waits}
use Rattle.agreement.proofs.hearing.Given.waiting.Goals as goal

pub returns : goal.returns
returns g c =
    let given = c.args.self.now in
    lowest_find (waits (g.P.Procedure.meaning given.procedure.now) given.phase given.beat given.heard.now) given.boxes _ _ c.find.result c.find.ensures.ran (λ x b q k. search rules)
