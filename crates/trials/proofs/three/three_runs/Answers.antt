use Rattle.std.proofs.Common.{subst}
use Rattle.agreement.specs.Promise.{Promise}
use Rattle.procedures.specs.Fast.{fast}
use Rattle.procedures.specs.Latest.{latest}
use Rattle.procedures.specs.Observing.{observing}
use Rattle.trials.proofs.three.three_runs.Goals as goal

pub returns-clause-fast : goal.returns-clause-fast
returns-clause-fast g c = let before = g.V.Setup.before in subst (λ x. Promise before (fast before (g.R.Rule.family x) (g.R.ClearView.clear x))) c.new.ensures c.open.ensures.promise

pub returns-clause-observing : goal.returns-clause-observing
returns-clause-observing g c = let before = g.V.Setup.before in subst (λ x. Promise before (observing before (g.R.Rule.family x))) c.new-2.ensures c.open-2.ensures.promise

pub returns-clause-latest : goal.returns-clause-latest
returns-clause-latest g c = let before = g.V.Setup.before in subst (λ x. Promise before (latest before (g.R.Rule.family x))) c.new-3.ensures c.open-3.ensures.promise
