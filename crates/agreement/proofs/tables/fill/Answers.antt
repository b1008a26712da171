use Rattle.std.proofs.Common.{arith, length, rules}
use borrow.Author.Rules.{scaled_fits≤}
use Rattle.agreement.specs.Slips.{opened}
use Rattle.agreement.proofs.Entries.{opened_at}
use Rattle.agreement.proofs.Overwriting.{over_next}
use Rattle.agreement.proofs.tables.fill.Goals as goal

pub offset_bounds-table-i : goal.offset_bounds-table-i
offset_bounds-table-i g c = scaled_fits≤ _ (length c.args.table.now) _ (omega arith) (search rules)

pub loop-i-preserved : goal.loop-i-preserved
loop-i-preserved g c =
    let i = c.loop-i.i in
    let at = opened_at c.args.proposals.now i c.index-proposals-i.result c.opening.result (omega arith) c.index-proposals-i.is c.opening.ensures in
    over_next (opened c.args.proposals.now) c.args.table.now c.loop-i.table i c.opening.result c.loop-i.invariant at (omega arith)
