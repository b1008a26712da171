use Rattle.std.proofs.Common.{Ok, Option, sym, ◌∙◌, subst}
use Rattle.agreement.specs.declared.faults.RunFault.{RunFault}
use Rattle.agreement.specs.Calls.{Beats, Reads}
use Rattle.trials.specs.Readings.{OneSetup}
use Rattle.trials.proofs.Agreeing.{agree}
use Rattle.trials.proofs.readings.two_readings.Goals as goal

pub returns : goal.returns
returns g c =
    let meaning = g.P.Procedure.meaning in
    let p = meaning c.args.procedure in
    let run = c.in_ok-run.run' in
    let opened = c.in_ok-run.ensures in
    let run_1 = c.beat.new.self in
    let run_2 = c.beat-2.new.self in
    let same = opened.runs in
    let same_1 = c.beat.ensures.runs ∙ same in
    let same_2 = c.beat-2.ensures.runs ∙ same_1 in
    let t = c.open.new.table in
    let u = c.beat.new.table in
    let v = c.beat-2.new.table in
    let s = c.beat.new.sheet in
    let r = c.beat-2.new.sheet in
    let x = c.in_ok-steered.steered in
    let y = c.in_ok-filed.filed in
    let first = subst (λ q. Beats (meaning q) run.clock t c.args.sheet.now c.args.first.now c.beat.result run_1.clock u s) same c.beat.ensures.beats in
    let read_one = subst (λ q. Reads (meaning q) u c.args.machine (Ok x)) same_1 c.in_ok-steered.ensures in
    let second = subst (λ q. Beats (meaning q) run_1.clock u s c.args.second.now c.beat-2.result run_2.clock v r) same_1 c.beat-2.ensures.beats in
    let read_two = subst (λ q. Reads (meaning q) v c.args.office (Ok y)) same_2 c.in_ok-filed.ensures in
    subst (λ (o : Option (g.row.V.Denot × g.row.V.Denot)). OneSetup {F = RunFault} (Ok o)) (sym c.zip.ensures)
    (agree p opened.promise c.args.proposals.now c.args.table.now run.clock run_1.clock run_2.clock t u v c.args.sheet.now s r c.args.first.now c.args.second.now
    c.beat.result c.beat-2.result c.args.machine c.args.office x y opened.opens first read_one second read_two)
