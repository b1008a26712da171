use Rattle.std.proofs.Common.{ap, ◌∙◌, subst}
use Rattle.std.proofs.lemmas.Result.{IfOk-from_err, IfOk-weaker}
use Rattle.quorum.specs.Making.{no_roster}
use Rattle.quorum.proofs.Refused.{value_of}
use Rattle.agreement.specs.Promise.{Promise}
use Rattle.procedures.specs.Latest.{latest}
use Rattle.procedures.specs.Licence.{standard_family}
use Rattle.procedures.proofs.licence.open.Goals as goal

pub returns-in_err-rule-clause-runs : goal.returns-in_err-rule-clause-runs
returns-in_err-rule-clause-runs g c = IfOk-from_err c.from_residual.result _ c.from_residual.ensures.0

pub returns-in_err-rule-clause-promise : goal.returns-in_err-rule-clause-promise
returns-in_err-rule-clause-promise g c = IfOk-from_err c.from_residual.result _ c.from_residual.ensures.0

pub returns-clause-runs : goal.returns-clause-runs
returns-clause-runs g c =
    let rule = ap standard_family c.new.ensures ∙ value_of (no_roster c.args.boxes) _ _ c.in_ok-rule.ensures in
    IfOk-weaker c.open.result _ _ (λ run r. ap (λ p. standard_family p.rule) r ∙ rule) c.open.ensures.runs

pub returns-clause-promise : goal.returns-clause-promise
returns-clause-promise g c =
    let before = g.V.Setup.before in
    let rule = ap standard_family c.new.ensures ∙ value_of (no_roster c.args.boxes) _ _ c.in_ok-rule.ensures in
    let kept = subst (λ f. Promise before (latest before f)) rule c.open.ensures.promise in
    IfOk-weaker c.open.result _ _ (λ run r. kept) c.open.ensures.runs
