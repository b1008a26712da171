use Rattle.std.proofs.Common.{rules}
use Rattle.quorum.proofs.Found.{lowest_find}
use Rattle.book.specs.Pages.{unbacked}
use Rattle.book.proofs.guards.Round.lowest_unbacked.Goals as goal

pub returns : goal.returns
returns g c =
    let round = c.args.self.now in
    let test = unbacked (g.R.Rule.family round.rule.now) g.V.Setup.before round.votes.entries.now c.args.decisions.now.entries.now in
    lowest_find test round.earlier.now.boxes _ _ c.find.result c.find.ensures.ran (λ x b q k. search rules)
