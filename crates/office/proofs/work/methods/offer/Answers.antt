use Rattle.std.proofs.Common.{length, sym, ap, ◌∙◌, drop, length-take-le}
use Rattle.agreement.specs.Promise.{Moment}
use Rattle.office.specs.Named.{meant}
use Rattle.office.specs.Working.{at_work}
use Rattle.office.proofs.Histories.{moved_length}
use Rattle.office.proofs.Offering.{comes, take_first}
use Rattle.office.proofs.work.methods.offer.Goals as goal

pub returns-clause-declines : goal.returns-clause-declines
returns-clause-declines c =
    let whole = length-take-le c.args.boxes c.args.table.now c.requires.1 in
    let room = length-take-le c.args.boxes c.args.sheet.now c.requires.2 in
    let m = at_work c.args.run.now c.args.boxes c.args.table.now in
    (comes (meant c.args.run.now.procedure) m c.args.heard.now _ (whole ∙ sym c.requires.0) (room ∙ sym c.requires.0) _ _ _ c.beat.result c.beat.ensures.beats).0

pub returns-clause-moves : goal.returns-clause-moves
returns-clause-moves c =
    let whole = length-take-le c.args.boxes c.args.table.now c.requires.1 in
    let room = length-take-le c.args.boxes c.args.sheet.now c.requires.2 in
    let m = at_work c.args.run.now c.args.boxes c.args.table.now in
    let p = meant c.args.run.now.procedure in
    let is = (comes p m c.args.heard.now _ (whole ∙ sym c.requires.0) (room ∙ sym c.requires.0) _ _ _ c.beat.result c.beat.ensures.beats).1 in
    let long = ap (λ (x : Moment _). length x.table) is ∙ moved_length p m c.args.heard.now ∙ whole in
    ap (λ t. record { clock = c.beat.new.self.clock; table = t }) (take_first c.args.boxes c.beat.new.table (drop c.args.boxes c.args.table.now) long) ∙ is
