-- Opening, beat and read: when each is declined, and what each answers and leaves. Assumes nothing.
use Rattle.std.specs.Prelude.{◌≡◌, ℕ, ◌+◌, ◌<◌, Bool, true, false, cond, not, List, length, Some, None, Ok, Err, Option, Result, ◌==◌, nat_lt, slice_index}
use Rattle.std.specs.Option.{option_map}
use Rattle.quorum.specs.Boxes.{lowest, IsLowest}
use Rattle.quorum.specs.Refusals.{Answers, Does, either, unless}
use Rattle.quorum.specs.Sets.{within}
use Rattle.agreement.specs.declared.clocks.Clock.{Clock}
use Rattle.agreement.specs.declared.faults.RunFault.{RunFault}
use Rattle.agreement.specs.declared.faults.RunFault.TheVariants as fault
use Rattle.agreement.specs.declared.runs.Run.{Run}
use Rattle.agreement.specs.declared.slips.Slip.{Slip}
use Rattle.agreement.specs.Laws.{last}
use Rattle.agreement.specs.Protocols.{Protocol, beaten}
use Rattle.agreement.specs.Slips.{opened, slip_at}

-- the list of this rank in the call is not n long
abbrev pub other_length : ℕ → ℕ → ℕ → Option RunFault
other_length n rank items = unless (items == n) (fault.Length rank)

-- ---- the clock

-- beat 0 of phase 0
abbrev pub beginning : Clock
beginning = record { phase = 0; beat = 0 }

-- the next beat of the phase, if it has one, and else the first of the next phase
abbrev pub advanced : ℕ → Clock → Clock
advanced beats c = cond (nat_lt (c.beat + 1) beats) (record { phase = c.phase; beat = c.beat + 1 }) (record { phase = c.phase + 1; beat = 0 })

-- the last phase is finished
abbrev pub closed : Clock → Bool
closed c = nat_lt last c.phase

-- ---- opening

-- proposals or a table that are not n long
abbrev pub no_opening : ℕ → ℕ → ℕ → Option RunFault
no_opening n proposals table = either (other_length n 1 proposals) (other_length n 2 table)

-- An opening that is not declined begins at beat 0 of phase 0, and the table has every box's first slip.
abbrev pub Opens : {V : Type 0} → Protocol V → List V → List (Slip V) → Result Clock RunFault → List (Slip V) → Type 0
Opens p proposals table answer table' =
    Does (no_opening p.rule.boxes (length proposals) (length table)) (λ c. (c ≡ beginning) × (table' ≡ opened proposals)) (table' ≡ table) answer

-- the clock of the run that an opening answers
abbrev pub clocked : {V P : Type 0} → Result (Run V P) RunFault → Result Clock RunFault
clocked (Ok run) = Ok run.clock
clocked (Err f) = Err f

-- ---- beat

-- the heard set of box i has a stranger
abbrev pub estranged : ℕ → List ℕ → ℕ → Bool
estranged n heard i = not (within n (slice_index heard i))

-- box i must wait: the beat does not admit its heard set
abbrev pub waits : {V : Type 0} → Protocol V → ℕ → ℕ → List ℕ → ℕ → Bool
waits p k b heard i = not (p.admits k b (slice_index heard i))

-- a box that must wait, whichever it is; none where no box must
abbrev pub Waiting : {V : Type 0} → Protocol V → ℕ → ℕ → List ℕ → Option ℕ → Type 0
Waiting p k b heard None = (i : ℕ) → i < p.rule.boxes → waits p k b heard i ≡ false
Waiting p k b heard (Some i) = (i < p.rule.boxes) × (waits p k b heard i ≡ true)

-- a table, a sheet or heard sets that are not n long
abbrev pub other_lengths : ℕ → ℕ → ℕ → ℕ → Option RunFault
other_lengths n table sheet heard = either (other_length n 1 table) (either (other_length n 2 sheet) (other_length n 3 heard))

-- the reason to decline a beat on a table and a sheet of these lengths, in the order of the checks, `waiting` being a box that must wait
abbrev pub no_beat : {V : Type 0} → Protocol V → Clock → ℕ → ℕ → List ℕ → Option ℕ → Option RunFault
no_beat p c table sheet heard waiting =
    either (other_lengths p.rule.boxes table sheet (length heard))
    (either (unless (not (closed c)) fault.Closed)
    (either (option_map fault.Stranger (lowest (estranged p.rule.boxes heard) p.rule.boxes))
    (option_map fault.Wait waiting)))

-- A beat that is not declined moves the clock on, the table has the new slips, and the sheet the former ones. A declined one leaves all as found; it names `waiting`
-- where a box must wait.
abbrev pub BeatsNaming : {V : Type 0} → Option ℕ → Protocol V → Clock → List (Slip V) → List (Slip V) → List ℕ → Result (Unit {0}) RunFault → Clock → List (Slip V) → List (Slip V) → Type 0
BeatsNaming waiting p c table sheet heard answer c' table' sheet' =
    Does (no_beat p c (length table) (length sheet) heard waiting)
    (λ _. (c' ≡ advanced p.beats c) × (table' ≡ beaten p c.phase c.beat heard table) × (sheet' ≡ table))
    ((c' ≡ c) × (table' ≡ table) × (sheet' ≡ sheet)) answer

-- a beat, whichever of the boxes that must wait it names
abbrev pub Beats : {V : Type 0} → Protocol V → Clock → List (Slip V) → List (Slip V) → List ℕ → Result (Unit {0}) RunFault → Clock → List (Slip V) → List (Slip V) → Type 0
Beats p c table sheet heard answer c' table' sheet' =
    (waiting : Option ℕ) × Waiting p c.phase c.beat heard waiting × BeatsNaming waiting p c table sheet heard answer c' table' sheet'

-- A beat that is declined for a stranger names the lowest box whose heard set has one; if a beat is taken, no heard set has any.
pub record FirstStranger (n : ℕ) (heard : List ℕ) (answer : Result (Unit {0}) RunFault) : Type 0 where
  pub declined : (i : ℕ) → answer ≡ Err (fault.Stranger i) → IsLowest (estranged n heard) n (Some i)
  pub taken : answer ≡ Ok tt → IsLowest (estranged n heard) n None

-- ---- read

-- a box that a roster of n lacks, or a table that is not n long
abbrev pub no_slip : ℕ → ℕ → ℕ → Option RunFault
no_slip n table i = either (unless (nat_lt i n) fault.NoBox) (other_length n 1 table)

-- A read that is not declined answers the slip of its box.
abbrev pub Reads : {V : Type 0} → Protocol V → List (Slip V) → ℕ → Result (Slip V) RunFault → Type 0
Reads p table i answer = Answers (no_slip p.rule.boxes (length table) i) (λ slip. slip_at table i ≡ Some slip) answer
