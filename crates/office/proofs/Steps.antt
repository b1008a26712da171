-- The steps of an answer come to an end. Assumes nothing.
use Rattle.std.proofs.Common.{◌≡◌, ◌<◌, true, is_none, Some, None, Option, ap, refl, arith}
use Rattle.shift.specs.declared.reader.Reader.{Reader}
use Rattle.office.specs.declared.answers.Stage.{Stage}
use Rattle.office.specs.declared.answers.Stage.TheVariants.{Faulty, Working, Done}
use Rattle.office.specs.Coming.{ahead, coming, steps}
use Rattle.office.specs.Shown.{Shown, and_after}
use Rattle.office.specs.Stages.{here, silent}

none_by : (o : Option Shown) → true ≡ is_none o → o ≡ None
none_by None e = refl
none_by (Some x) e = cc

-- where nothing is shown, what comes is what is ahead, and a step is left
pub all_ahead : (s : Stage) (r : Reader) → true ≡ silent s → coming s r ≡ ahead s r
all_ahead (Working w) r e = ap (λ o. and_after o (ahead (Working w) r)) (none_by (here (Working w)) e)
all_ahead (Faulty f) r e = cc
all_ahead Done r e = cc

pub step_left : (s : Stage) (r : Reader) → true ≡ silent s → 0 < steps s r
step_left (Working w) r e = omega arith
step_left (Faulty f) r e = cc
step_left Done r e = cc

pub ruleset turns = (all_ahead, step_left)
