-- A beat that names the lowest box that must wait is a beat. Assumes nothing.
use Rattle.std.proofs.Common.{ℕ, List, Some, None, Option, Result}
use Rattle.quorum.specs.Boxes.{IsLowest}
use Rattle.quorum.proofs.Lowest.{lowest_is_lowest}
use Rattle.agreement.specs.declared.clocks.Clock.{Clock}
use Rattle.agreement.specs.declared.faults.RunFault.{RunFault}
use Rattle.agreement.specs.declared.slips.Slip.{Slip}
use Rattle.agreement.specs.Calls.{waits, Beats, Waiting}
use Rattle.agreement.specs.Inside.{lowest_waiting, BeatsLowest}
use Rattle.agreement.specs.Protocols.{Protocol}

-- the lowest box that must wait is one that must
is_waiting : {V : Type 0} (p : Protocol V) (k b : ℕ) (heard : List ℕ) (waiting : Option ℕ) → IsLowest (waits p k b heard) p.rule.boxes waiting → Waiting p k b heard waiting
is_waiting p k b heard None h = h
is_waiting p k b heard (Some i) h = (h.0, h.1)

pub beats_naming_lowest : {V : Type 0} (p : Protocol V) (c : Clock) (table sheet : List (Slip V)) (heard : List ℕ) (answer : Result (Unit {0}) RunFault) (next : Clock) (after copy : List (Slip V))
    → BeatsLowest p c table sheet heard answer next after copy → Beats p c table sheet heard answer next after copy
beats_naming_lowest p c table sheet heard answer next after copy h =
    let test = waits p c.phase c.beat heard in (lowest_waiting p c heard, is_waiting p c.phase c.beat heard _ (lowest_is_lowest test p.rule.boxes), h)
