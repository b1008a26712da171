use Rattle.std.proofs.Common.{ℕ, ◌+◌, ◌*◌, ◌/◌, ◌<◌, ◌≤◌, Bool, true, false, cond, List, length, ◌==◌, arith}
use Rattle.book.proofs.Places.{row_fits}
use Rattle.exports.specs.InTurn.{parts}
use Rattle.exports.proofs.parts.part.Goals as goal

-- a part ends within the list
part_by : {X : Type 0} (b : Bool) (each : ℕ) (l : List X) (k : ℕ) → k < cond b 0 (length l / each) → k * each + each ≤ length l
part_by true each l k lt = absurd (omega (arith, lt))
part_by false each l k lt = row_fits k each (length l) lt

part_ends : {X : Type 0} (each : ℕ) (l : List X) (k : ℕ) → k < parts each l → k * each + each ≤ length l
part_ends each l k lt = part_by (each == 0) each l k lt

pub overflow_mul-at : goal.overflow_mul-at
overflow_mul-at g c = omega (arith, part_ends c.args.each c.args.list.now c.args.k c.requires)

pub overflow_add-result : goal.overflow_add-result
overflow_add-result g c = omega (arith, part_ends c.args.each c.args.list.now c.args.k c.requires)

pub offset_bounds-list-at : goal.offset_bounds-list-at
offset_bounds-list-at g c = omega (arith, part_ends c.args.each c.args.list.now c.args.k c.requires)

pub slice_bounds-result-end : goal.slice_bounds-result-end
slice_bounds-result-end g c = part_ends c.args.each c.args.list.now c.args.k c.requires
