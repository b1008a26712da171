use Rattle.std.proofs.Common.{length}
use Rattle.std.specs.Fmt.{IsPlainFormatter}
use Rattle.office.specs.Answers.{answer}
use Rattle.office.specs.Coming.{to_come}
use Rattle.office.proofs.Printing.{PartWritten}
use Rattle.office.proofs.printouts.PrintoutDisplay.fmt.Given as goal

-- the loop has written what has come, and the rest is still to come
abbrev pub invariant-loop-event : goal.invariant-loop-event
invariant-loop-event g l = IsPlainFormatter l.initial.f → PartWritten g.W.Write.write_str_gives l.initial.f l.f (to_come l.answer) (answer l.self.text.now)

abbrev pub decreases-loop-event : goal.decreases-loop-event
decreases-loop-event g l = length (to_come l.answer)
