use Rattle.std.proofs.Common.{◌∙◌, length, sym}
use Rattle.quorum.proofs.Refused.{answers_ok}
use Rattle.agreement.specs.Inside.{no_beat_lowest}
use Rattle.agreement.proofs.beats.close.Goals as goal

pub turn_over-requires : goal.turn_over-requires
turn_over-requires g c =
    let on = c.in_ok-given.ensures.fitting in
    (on.sheet_length ∙ sym on.boxes, on.table_length ∙ sym on.boxes)

pub advanced-requires : goal.advanced-requires
advanced-requires g c = c.in_ok-given.ensures.fitting.unclosed

pub returns : goal.returns
returns g c =
    let on = c.in_ok-given.ensures.fitting in
    let p = g.P.Procedure.meaning c.args.procedure.now in
    let stays = answers_ok (no_beat_lowest p c.args.clock.now (length c.args.table.now) (length c.args.sheet.now) c.args.heard.now) _ c.in_ok-given.given c.in_ok-given.ensures.value in
    rw stays (rw c.beats.ensures at c.advanced.ensures, rw (on.by, on.phase, on.beat, on.heard) at c.turn_over.ensures.table, c.turn_over.ensures.sheet)
