use Rattle.std.proofs.Common.{sym, ◌∙◌}
use Rattle.office.proofs.Heads.{meant_boxes}
use Rattle.office.proofs.head.reading.read_head.Goals as goal

pub invariant_of-result : goal.invariant_of-result
invariant_of-result c =
    let asked = meant_boxes c.new.result c.in_ok-procedure.procedure c.named_rule.result c.in_ok-rule.rule c.in_ok-roster.roster.boxes c.new.ensures c.named_rule.ensures.rule in
    record { proposed = c.in_ok-setups.ensures.count ∙ sym asked }
