-- What the faults of a run report. Assumes nothing.
use Rattle.std.specs.Prelude.{ℕ}
use Rattle.quorum.specs.Refusals.{of_rule}
use Rattle.quorum.specs.declared.refusals.Fault.{Fault}
use Rattle.quorum.specs.declared.refusals.Layer.TheVariants as layer
use Rattle.quorum.specs.declared.refusals.Refusal.{Refusal}
use Rattle.quorum.specs.declared.refusals.Refusal.TheVariants as refusal
use Rattle.agreement.specs.declared.faults.RunFault.{RunFault}
use Rattle.agreement.specs.declared.faults.RunFault.TheVariants as run

-- found by the run itself
abbrev by_run : Refusal → ℕ → Fault
by_run reason place = record { refusal = reason; layer = layer.Run; place = place }

-- the place is the rank of a list, a box, or 0; the fault of a rule is reported as the rule does
abbrev pub of_run : RunFault → Fault
of_run (run.Rule f) = of_rule f
of_run run.NoBox = by_run refusal.NoBox 0
of_run (run.Length k) = by_run refusal.Length k
of_run run.Closed = by_run refusal.Closed 0
of_run (run.Stranger i) = by_run refusal.Stranger i
of_run (run.Wait i) = by_run refusal.Wait i
