use Rattle.std.proofs.Common.{arith, length, rules}
use borrow.Author.Rules.{scaled_fits≤}
use Rattle.agreement.proofs.hearing.Given.rewrite.Goals as goal

pub offset_bounds-table-i : goal.offset_bounds-table-i
offset_bounds-table-i g c = scaled_fits≤ _ (length c.args.table.now) _ (omega arith) (search rules)
