-- A run that is at work: its moment, and what it shows. Assumes nothing.
use Rattle.std.specs.Prelude.{ℕ, List, take, Some, None, Ok, Err, Option, Result}
use Rattle.std.specs.Option.{option_map}
use Rattle.quorum.specs.declared.refusals.Refusal.{Refusal}
use Rattle.agreement.specs.declared.faults.RunFault.{RunFault}
use Rattle.agreement.specs.declared.runs.Run.{Run}
use Rattle.agreement.specs.declared.slips.Slip.{Slip}
use Rattle.agreement.specs.Promise.{Moment}
use Rattle.office.specs.declared.named_procedure.NamedProcedure.{NamedProcedure}
use Rattle.office.specs.declared.work.Work.{Work}
use Rattle.office.specs.Answers.{refusal_of}
use Rattle.office.specs.Events.{seen}
use Rattle.office.specs.Shown.{Shown}

-- the slips of the roster come first in the table
abbrev pub at_work : Run ℕ NamedProcedure → ℕ → List (Slip ℕ) → Moment ℕ
at_work run boxes table = record { clock = run.clock; table = take boxes table }

abbrev pub moment : Work → Moment ℕ
moment w = at_work w.run w.boxes w.table

-- what the last beat shows, if anything
abbrev pub shown_by : Work → Option Shown
shown_by w = option_map (λ sign. seen sign (moment w).table) w.sign

-- why a beat was declined, if it was
abbrev pub declined_with : Result (Unit {0}) RunFault → Option Refusal
declined_with (Ok u) = None
declined_with (Err f) = Some (refusal_of f)
