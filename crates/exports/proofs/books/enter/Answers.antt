use Rattle.std.proofs.Common.{◌∙◌, subst}
use Rattle.setup.specs.Kinds.{number_before}
use Rattle.book.specs.Entering.{Enters}
use Rattle.book.specs.Keeping.{pages}
use Rattle.exports.specs.InTurn.{part}
use Rattle.exports.specs.Kept.{RowOf}
use Rattle.quorum.specs.Chosen.{family_of}
use Rattle.exports.specs.Rowing.{as_rows}
use Rattle.exports.proofs.Steps.{one_more}
use Rattle.exports.proofs.books.enter.Goals as goal

pub loop-k-preserved : goal.loop-k-preserved
loop-k-preserved c =
    let rows = c.args.rows in
    let l = c.loop-k in
    let row = c.enter-last in (
      row.ensures.lent ∙ l.invariant.0,
      one_more (RowOf (family_of c.args.rule.now) (as_rows rows)) _ l.k _ _ l.invariant.1
          (subst (λ v. Enters (family_of c.args.rule.now) number_before (pages l.book) v (part rows.each_decisions rows.decisions.now l.k) row.result (pages row.new.self)) c.part.ensures
          (subst (λ d. Enters (family_of c.args.rule.now) number_before (pages l.book) c.part.result.now d row.result (pages row.new.self)) c.part-in-loop-k.ensures row.ensures.value)),
    )
