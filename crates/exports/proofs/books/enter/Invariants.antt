use Rattle.std.proofs.Common.{◌≡◌}
use Rattle.book.specs.Keeping.{pages}
use Rattle.exports.specs.InTurn.{InTurn}
use Rattle.exports.specs.Kept.{RowOf}
use Rattle.quorum.specs.Chosen.{family_of}
use Rattle.exports.specs.Rowing.{as_rows}
use Rattle.exports.proofs.books.enter.Given as goal

abbrev pub invariant-loop-k : goal.invariant-loop-k
invariant-loop-k l =
    let from = l.initial in
    (l.book.list.ghost_name ≡ from.book.list.ghost_name)
    × InTurn (RowOf (family_of l.rule) (as_rows l.rows)) (record { answer = from.last; pages = pages from.book }) l.k (record { answer = l.last; pages = pages l.book })
