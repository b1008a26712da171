use Rattle.std.proofs.Common.{◌≡◌, true}
use Rattle.office.specs.Coming.{coming, steps}
use Rattle.office.specs.Stages.{within_limit}
use Rattle.office.proofs.answers.methods.seek.Given as goal

-- the steps so far have shown nothing
abbrev pub invariant-loop-reader : goal.invariant-loop-reader
invariant-loop-reader l = (coming l.stage l.reader ≡ coming l.initial.stage l.initial.reader) × (within_limit l.stage l.reader.text.now ≡ true)

abbrev pub decreases-loop-reader : goal.decreases-loop-reader
decreases-loop-reader l = steps l.stage l.reader
