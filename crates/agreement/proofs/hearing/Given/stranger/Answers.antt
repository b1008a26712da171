use Rattle.std.proofs.Common.{rules}
use Rattle.quorum.proofs.Found.{lowest_find}
use Rattle.agreement.specs.Calls.{estranged}
use Rattle.agreement.proofs.hearing.Given.stranger.Goals as goal

pub returns : goal.returns
returns g c = lowest_find (estranged c.args.self.now.boxes c.args.self.now.heard.now) c.args.self.now.boxes _ _ c.find.result c.find.ensures.ran (λ x b q k. search rules)
