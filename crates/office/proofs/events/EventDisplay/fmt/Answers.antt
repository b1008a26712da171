use Rattle.office.proofs.Passing.{never}
use Rattle.office.proofs.events.EventDisplay.fmt.Goals as goal

pub returns-in_err-write_str-in-Declined-clause-writes : goal.returns-in_err-write_str-in-Declined-clause-writes
returns-in_err-write_str-in-Declined-clause-writes g c = λ plain. never c.from_residual.result _ c.from_residual.ensures.1

pub returns-in_err-write_str-in-Phase-clause-writes : goal.returns-in_err-write_str-in-Phase-clause-writes
returns-in_err-write_str-in-Phase-clause-writes g c = λ plain. never c.from_residual-in_err-write_str-in-Phase.result _ c.from_residual-in_err-write_str-in-Phase.ensures.1

pub returns-in_err-fmt-in-Phase-clause-writes : goal.returns-in_err-fmt-in-Phase-clause-writes
returns-in_err-fmt-in-Phase-clause-writes g c = λ plain. never c.from_residual-in_err-fmt-in-Phase.result _ c.from_residual-in_err-fmt-in-Phase.ensures.1

pub returns-in_err-write_str-in-Phase-2-clause-writes : goal.returns-in_err-write_str-in-Phase-2-clause-writes
returns-in_err-write_str-in-Phase-2-clause-writes g c = λ plain. never c.from_residual-in_err-write_str-in-Phase-2.result _ c.from_residual-in_err-write_str-in-Phase-2.ensures.1

pub returns-in_err-fmt-in-Phase-2-clause-writes : goal.returns-in_err-fmt-in-Phase-2-clause-writes
returns-in_err-fmt-in-Phase-2-clause-writes g c = λ plain. never c.from_residual-in_err-fmt-in-Phase-2.result _ c.from_residual-in_err-fmt-in-Phase-2.ensures.1

pub returns-in_err-write_str-in-Phase-3-clause-writes : goal.returns-in_err-write_str-in-Phase-3-clause-writes
returns-in_err-write_str-in-Phase-3-clause-writes g c = λ plain. never c.from_residual-in_err-write_str-in-Phase-3.result _ c.from_residual-in_err-write_str-in-Phase-3.ensures.1
