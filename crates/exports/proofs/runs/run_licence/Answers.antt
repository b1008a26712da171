use Rattle.std.proofs.Common.{subst}
use Rattle.quorum.specs.Making.{no_roster}
use Rattle.setup.specs.Kinds.{number_before}
use Rattle.procedures.specs.Latest.{latest}
use Rattle.procedures.specs.Licence.{licensed}
use Rattle.exports.specs.Runs.{Works}
use Rattle.exports.proofs.Steps.{licensed_runs}
use Rattle.exports.proofs.runs.run_licence.Goals as goal

pub returns : goal.returns
returns c =
    let shift = c.args.shift in
    let run = c.in_ok-run.run' in
    licensed_runs (licensed number_before c.args.boxes) shift.each shift.heard.now shift.proposals.now c.args.table.now c.args.sheet.now c.open.new.table run.clock c.work.result c.work.new.table c.work.new.sheet (no_roster c.args.boxes)
    c.in_ok-run.ensures.opens
    (subst (λ f. Works (latest number_before f) shift.each shift.heard.now run.clock c.open.new.table c.args.sheet.now c.work.result c.work.new.table c.work.new.sheet) c.in_ok-run.ensures.runs c.work.ensures)
