-- What each fault of a text reports. Assumes nothing.
use Rattle.std.specs.Prelude.{ℕ, List, ◌++◌, codes, decimal}
use Rattle.quorum.specs.declared.refusals.Fault.{Fault}
use Rattle.quorum.specs.declared.refusals.Layer.TheVariants.{Text}
use Rattle.quorum.specs.declared.refusals.Refusal.{Refusal}
use Rattle.quorum.specs.declared.refusals.Refusal.TheVariants as refusal
use Rattle.quorum.specs.Refusals.{number, word}
use Rattle.agreement.specs.declared.faults.RunFault.{RunFault}
use Rattle.agreement.specs.Faults.{of_run}
use Rattle.shift.specs.declared.faults.Cause.{Cause}
use Rattle.shift.specs.declared.faults.Cause.TheVariants.{Long, Key, Value, Run}
use Rattle.shift.specs.declared.faults.Spot.{Spot}
use Rattle.shift.specs.declared.faults.TextFault.{TextFault}

abbrev by_text : Refusal → Fault
by_text r = record { refusal = r; layer = Text; place = 0 }

-- a fault of a layer below is reported unchanged
abbrev pub reported_cause : Cause → Fault
reported_cause Long = by_text refusal.Long
reported_cause Key = by_text refusal.Key
reported_cause Value = by_text refusal.Value
reported_cause (Run f) = of_run f

abbrev pub of_text : TextFault → Fault
of_text f = reported_cause f.cause

abbrev pub at_run : RunFault → Spot → TextFault
at_run f s = record { cause = Run f; spot = s }

-- the fault of line n as a whole
abbrev pub at_line : Cause → ℕ → TextFault
at_line c n = record { cause = c; spot = record { line = n; column = 1 } }

-- the value at the spot is not of its form
abbrev pub no_value : Spot → TextFault
no_value s = record { cause = Value; spot = s }

-- the lines of a fault that was found at the spot, with no line end after the last
abbrev pub reported_at : Spot → Fault → List ℕ
reported_at s f =
    codes "fault=" ++ (decimal (number f.refusal)
    ++ (codes "\nlayer=" ++ (word f.layer
    ++ (codes "\nplace=" ++ (decimal f.place
    ++ (codes "\nline=" ++ (decimal s.line
    ++ (codes "\ncolumn=" ++ decimal s.column))))))))

-- the number, the layer and the place of what is reported, and the line and the column
abbrev pub report : TextFault → List ℕ
report f = reported_at f.spot (of_text f)
