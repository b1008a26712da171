use Rattle.std.proofs.Common.{rules, arith, length}
use borrow.Author.Rules.{scaled_fits≤}
use Rattle.office.proofs.rows.RowDisplay.fmt.Goals as goal

pub offset_bounds-more-slip-index : goal.offset_bounds-more-slip-index
offset_bounds-more-slip-index g c = scaled_fits≤ _ (length c.in-Some.more.now) _ (omega arith) (search rules)
