use Rattle.agreement.proofs.Entries.{beaten_at}
use Rattle.agreement.proofs.hearing.Given.new_slip.Goals as goal

pub returns : goal.returns
returns g c =
    let given = c.args.self.now in
    beaten_at (g.P.Procedure.meaning given.procedure.now) given.phase given.beat given.heard.now c.args.slips.now c.args.i c.index-slips-i.result c.next.result
    c.requires.0 c.index-slips-i.is c.next.ensures
