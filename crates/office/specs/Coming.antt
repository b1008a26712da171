-- What an answer has still to show. Assumes nothing.
use Rattle.std.specs.Prelude.{ℕ, ◌+◌, List, [], length}
use Rattle.shift.specs.declared.reader.Reader.{Reader}
use Rattle.shift.specs.Lines.{left}
use Rattle.office.specs.declared.answers.Answer.{Answer}
use Rattle.office.specs.declared.answers.Stage.{Stage}
use Rattle.office.specs.declared.answers.Stage.TheVariants.{Faulty, Working, Done}
use Rattle.office.specs.Answers.{beats}
use Rattle.office.specs.Named.{meant}
use Rattle.office.specs.Shown.{Shown, and_after}
use Rattle.office.specs.Stages.{here}
use Rattle.office.specs.Working.{moment}

-- what comes after what is shown at a stage
abbrev pub ahead : Stage → Reader → List Shown
ahead (Working w) r = beats (meant w.run.procedure) (moment w) r.line (left r)
ahead (Faulty f) r = []
ahead Done r = []

-- what is shown at it, and what comes after
abbrev pub coming : Stage → Reader → List Shown
coming s r = and_after (here s) (ahead s r)

-- what an answer shows from its place on
abbrev pub to_come : Answer → List Shown
to_come a = coming a.stage a.reader

-- how many steps may be left: one for each byte, and one for the end
abbrev pub steps : Stage → Reader → ℕ
steps (Working w) r = length (left r) + 1
steps (Faulty f) r = 1
steps Done r = 0
