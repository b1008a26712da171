use Rattle.std.proofs.Common.{length}
use Rattle.quorum.proofs.Refused.{answers_ok}
use Rattle.agreement.specs.Calls.{no_opening}
use Rattle.agreement.proofs.runs.begin.Goals as goal

pub returns : goal.returns
returns g c =
    let p = g.P.Procedure.meaning c.args.procedure.now in
    let opens = answers_ok (no_opening p.rule.boxes (length c.args.proposals.now) (length c.args.table.now)) _ tt (rw (c.boxes.ensures, c.rule.ensures) at c.in_ok-may_open.ensures.value) in
    rw opens (c.beginning.ensures, c.fill.ensures)
