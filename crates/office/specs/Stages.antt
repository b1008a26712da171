-- What is shown at a stage of an answer, and that a text that is worked is not too long. Assumes nothing.
use Rattle.std.specs.Prelude.{ℕ, Bool, true, false, is_none, List, length, Some, None, Option, nat_le}
use Rattle.shift.specs.Lines.{longest}
use Rattle.office.specs.declared.answers.Stage.{Stage}
use Rattle.office.specs.declared.answers.Stage.TheVariants.{Faulty, Working, Done}
use Rattle.office.specs.Shown.{Shown}
use Rattle.office.specs.Shown.Shown.{fault}
use Rattle.office.specs.Working.{shown_by}

-- what is shown at the stage
abbrev pub here : Stage → Option Shown
here (Working w) = shown_by w
here (Faulty f) = Some (fault f)
here Done = None

-- nothing is shown at it, though more may come
abbrev pub silent : Stage → Bool
silent (Working w) = is_none (shown_by w)
silent (Faulty f) = false
silent Done = false

abbrev pub within_limit : Stage → List ℕ → Bool
within_limit (Faulty f) text = true
within_limit (Working w) text = nat_le (length text) longest
within_limit Done text = true
