use Rattle.std.proofs.Common.{rules}
use Rattle.quorum.proofs.Found.{lowest_find}
use Rattle.book.specs.Keeping.{read}
use Rattle.book.specs.Pages.{defects}
use Rattle.book.proofs.guards.Round.lowest_defector.Goals as goal

pub returns : goal.returns
returns g c =
    let round = c.args.self.now in
    let test = defects (g.R.Rule.family round.rule.now) g.V.Setup.before (read round.earlier.now) round.votes.entries.now in
    lowest_find test round.earlier.now.boxes _ _ c.find.result c.find.ensures.ran (λ x b q k. search rules)
