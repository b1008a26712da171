use Rattle.std.proofs.Common.{◌∙◌, ap, length, length-take-le, refl, sym, arith}
use Rattle.exports.proofs.Telling.{front_within, left_room, lent_room, lent_slips, run_tells, slips_tell}
use Rattle.exports.proofs.calls.zotymoi_run.Goals as goal

pub returns : goal.returns
returns c =
    let run = c.run_asked-answer in
    let n = length c.args.table.now in
    let m = length c.args.sheet.now in
    let table = lent_slips n c.min-n.result c.blank-slips.result c.min-n.ensures c.blank-slips.ensures in
    let sheet = lent_slips m c.min-m.result c.blank-former.result c.min-m.ensures c.blank-former.ensures in
    record {
      answer = run.result;
      slips = run.new.table;
      former = run.new.sheet;
      runs = run_tells _ _ c.args.proposals.now c.args.each c.args.heard.now _ _ _ _ run.result run.new.table run.new.sheet table sheet run.ensures;
      told = c.run_fault.ensures;
      slips_told = slips_tell n c.min-n.result run.new.table _ c.min-n.ensures (run.auto.table ∙ ap length table) c.args.table.now _ refl c.tell.ensures;
      former_told = slips_tell m c.min-m.result run.new.sheet _ c.min-m.ensures (run.auto.sheet ∙ ap length sheet) c.args.sheet.now _ refl c.tell-2.ensures;
    }

pub slice_bounds-slips-end : goal.slice_bounds-slips-end
slice_bounds-slips-end c = lent_room _ _ _ c.min-n.ensures c.blank-slips.ensures

pub slice_bounds-run_asked-end : goal.slice_bounds-run_asked-end
slice_bounds-run_asked-end c = sym (length-take-le _ _ (lent_room _ _ _ c.min-n.ensures c.blank-slips.ensures))

pub slice_bounds-former-end : goal.slice_bounds-former-end
slice_bounds-former-end c = lent_room _ _ _ c.min-m.ensures c.blank-former.ensures

pub slice_bounds-run_asked-end-2 : goal.slice_bounds-run_asked-end-2
slice_bounds-run_asked-end-2 c = sym (length-take-le _ _ (lent_room _ _ _ c.min-m.ensures c.blank-former.ensures))

pub slice_bounds-slips-end-2 : goal.slice_bounds-slips-end-2
slice_bounds-slips-end-2 c =
    let same = c.run_asked-answer.auto.table ∙ length-take-le _ _ (lent_room _ _ _ c.min-n.ensures c.blank-slips.ensures) in
    left_room _ c.run_asked-answer.new.table _ same

pub slice_bounds-tell-end : goal.slice_bounds-tell-end
slice_bounds-tell-end c =
    let same = c.run_asked-answer.auto.table ∙ length-take-le _ _ (lent_room _ _ _ c.min-n.ensures c.blank-slips.ensures) in
    sym (length-take-le _ _ (left_room _ c.run_asked-answer.new.table _ same))

pub tell-requires : goal.tell-requires
tell-requires c = front_within _ _ _ (omega (arith, c.min-n.ensures))
