use Rattle.std.proofs.Common.{◌∙◌, length-take-le, sym, arith}
use Rattle.exports.proofs.Telling.{left_room}
use Rattle.exports.proofs.calls.zotymoi_book.Goals as goal

pub slice_bounds-entries-end : goal.slice_bounds-entries-end
slice_bounds-entries-end c = omega (arith, c.read_entries-n.ensures.number, c.read_entries-n.array_long)

pub slice_bounds-keep-end : goal.slice_bounds-keep-end
slice_bounds-keep-end c = sym (length-take-le _ _ (omega (arith, c.read_entries-n.ensures.number, c.read_entries-n.array_long)))

pub slice_bounds-entries-end-2 : goal.slice_bounds-entries-end-2
slice_bounds-entries-end-2 c = left_room _ c.keep-answer.new.list _ (c.keep-answer.auto.list ∙ length-take-le _ _ (omega (arith, c.read_entries-n.ensures.number, c.read_entries-n.array_long)))

pub slice_bounds-put-end : goal.slice_bounds-put-end
slice_bounds-put-end c = sym (length-take-le _ _ (left_room _ c.keep-answer.new.list _ (c.keep-answer.auto.list ∙ length-take-le _ _ (omega (arith, c.read_entries-n.ensures.number, c.read_entries-n.array_long)))))

pub slice_bounds-put-end-2 : goal.slice_bounds-put-end-2
slice_bounds-put-end-2 c = omega (arith, c.read_entries-n.ensures.number)

pub slice_bounds-put-end-3 : goal.slice_bounds-put-end-3
slice_bounds-put-end-3 c = sym (length-take-le _ _ (omega (arith, c.read_entries-n.ensures.number)))

pub put-requires : goal.put-requires
put-requires c = length-take-le _ _ (left_room _ c.keep-answer.new.list _ (c.keep-answer.auto.list ∙ length-take-le _ _ (omega (arith, c.read_entries-n.ensures.number, c.read_entries-n.array_long)))) ∙ sym (length-take-le _ _ (omega (arith, c.read_entries-n.ensures.number)))
