use Rattle.std.proofs.Common.{rules}
use Rattle.book.specs.Keeping.{read}
use Rattle.book.specs.Pages.{turns_at}
use Rattle.book.proofs.Searches.{some_row_found}
use Rattle.book.proofs.guards.Round.defects.Goals as goal

pub returns : goal.returns
returns g c =
    let round = c.args.self.now in
    let test = turns_at (g.R.Rule.family round.rule.now) g.V.Setup.before (read round.earlier.now) round.votes.entries.now c.args.i in
    some_row_found _ test round.earlier.now.rows c.any.result c.any.ensures.ran (λ x b q k. search rules)
