use Rattle.std.proofs.Common.{arith}
use Rattle.book.proofs.Places.{row_ends}
use Rattle.book.proofs.written.Written.row.Goals as goal

pub overflow_mul-at : goal.overflow_mul-at
overflow_mul-at g c =
    let w = c.args.self.now in
    omega (arith, row_ends c.args.r w.rows w.boxes _ c.requires w.kept)

pub overflow_add-at : goal.overflow_add-at
overflow_add-at g c =
    let w = c.args.self.now in
    omega (arith, row_ends c.args.r w.rows w.boxes _ c.requires w.kept)

pub offset_bounds-self-at : goal.offset_bounds-self-at
offset_bounds-self-at g c =
    let w = c.args.self.now in
    omega (arith, row_ends c.args.r w.rows w.boxes _ c.requires w.kept)

pub slice_bounds-new-end : goal.slice_bounds-new-end
slice_bounds-new-end g c =
    let w = c.args.self.now in
    row_ends c.args.r w.rows w.boxes _ c.requires w.kept
