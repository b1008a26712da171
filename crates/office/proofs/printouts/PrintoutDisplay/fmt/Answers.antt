use Rattle.office.proofs.Passing.{never}
use Rattle.office.proofs.Printing.{begins}
use Rattle.office.proofs.printouts.PrintoutDisplay.fmt.Goals as goal

pub returns-in_err-fmt-clause-writes : goal.returns-in_err-fmt-clause-writes
returns-in_err-fmt-clause-writes g c = λ plain. never c.from_residual.result _ c.from_residual.ensures.1

pub returns-in_err-write_str-clause-writes : goal.returns-in_err-write_str-clause-writes
returns-in_err-write_str-clause-writes g c = λ plain. never c.from_residual-in_err-write_str.result _ c.from_residual-in_err-write_str.ensures.1

pub loop-event-init : goal.loop-event-init
loop-event-init g c = λ plain. begins g.W.Write.write_str_gives c.args.f.now _ _ c.new-answer.ensures.answers plain
