use Rattle.std.proofs.Common.{◌∙◌, ap}
use Rattle.exports.specs.Asked.{asked, clear_asked, no_rule}
use Rattle.exports.specs.Flat.{flat_fault}
use Rattle.exports.proofs.Telling.{bit, fault_tells, made_tells}
use Rattle.exports.proofs.calls.zotymoi_rule.Goals as goal

pub returns-in-Ok : goal.returns-in-Ok
returns-in-Ok c =
    made_tells (no_rule c.args.rule.now) (asked c.args.rule.now) (clear_asked c.args.rule.now) c.in-Ok.rule c.args.set c.from.result c.from-in-Ok.result c.in-Ok.ensures (bit _ _ _ c.from.ensures c.is_quorum.ensures) (bit _ _ _ c.from-in-Ok.ensures c.is_clear.ensures)

pub returns-in-Err : goal.returns-in-Err
returns-in-Err c =
    c.flat_fault.ensures ∙ ap flat_fault c.from-in-Err.ensures ∙ fault_tells (no_rule c.args.rule.now) _ c.in-Err.fault _ _ c.in-Err.ensures
