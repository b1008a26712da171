use Rattle.std.proofs.Common.{arith, length, rules}
use borrow.Author.Rules.{scaled_fits≤}
use Rattle.book.proofs.entering.put.Goals as goal

pub offset_bounds-list-at : goal.offset_bounds-list-at
offset_bounds-list-at g c = scaled_fits≤ _ (length c.args.list.now) _ (omega arith) (search rules)
