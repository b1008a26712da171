-- A run that is opened and then worked by beats in turn. Assumes nothing.
use Rattle.std.specs.Prelude.{◌≡◌, ℕ, List, length, Some, None, Ok, Err, Option, Result}
use Rattle.quorum.specs.declared.refusals.RuleFault.{RuleFault}
use Rattle.agreement.specs.declared.clocks.Clock.{Clock}
use Rattle.agreement.specs.declared.faults.RunFault.{RunFault}
use Rattle.agreement.specs.declared.faults.RunFault.TheVariants.{Rule}
use Rattle.agreement.specs.declared.slips.Slip.{Slip}
use Rattle.agreement.specs.Calls.{Beats, beginning, no_opening}
use Rattle.agreement.specs.Protocols.{Protocol}
use Rattle.agreement.specs.Slips.{opened}
use Rattle.exports.specs.InTurn.{InTurn, part, parts}

-- what stands after a call: its answer, the clock, and the slips of table and sheet
pub record Standing : Type 0 where
  pub answer : Result (Unit {0}) RunFault
  pub clock : Clock
  pub table : List (Slip ℕ)
  pub sheet : List (Slip ℕ)

-- beat k, with so many heard sets to each
abbrev pub BeatOf : Protocol ℕ → ℕ → List ℕ → ℕ → Standing → Standing → Type 0
BeatOf p each heard k s t = Beats p s.clock s.table s.sheet (part each heard k) t.answer t.clock t.table t.sheet

-- what stands after a run of p, with this clock, was worked by the beats of `heard`
abbrev pub Works : Protocol ℕ → ℕ → List ℕ → Clock → List (Slip ℕ) → List (Slip ℕ) → Result (Unit {0}) RunFault → List (Slip ℕ) → List (Slip ℕ) → Type 0
Works p each heard clock table sheet answer table' sheet' =
    (c : Clock) × InTurn (BeatOf p each heard) (record { answer = Ok tt; clock = clock; table = table; sheet = sheet }) (parts each heard) (record { answer = answer; clock = c; table = table'; sheet = sheet' })

-- the same where it is opened first; where the opening is declined, nothing is worked
abbrev pub RunsOr : Option RunFault → Protocol ℕ → List ℕ → ℕ → List ℕ → List (Slip ℕ) → List (Slip ℕ) → Result (Unit {0}) RunFault → List (Slip ℕ) → List (Slip ℕ) → Type 0
RunsOr (Some f) p proposals each heard table sheet answer table' sheet' = (answer ≡ Err f) × (table' ≡ table) × (sheet' ≡ sheet)
RunsOr None p proposals each heard table sheet answer table' sheet' = Works p each heard beginning (opened proposals) sheet answer table' sheet'

-- the same, opened with proposals and a table of these lengths
abbrev pub Runs : Protocol ℕ → List ℕ → ℕ → List ℕ → List (Slip ℕ) → List (Slip ℕ) → Result (Unit {0}) RunFault → List (Slip ℕ) → List (Slip ℕ) → Type 0
Runs p proposals each heard table = RunsOr (no_opening p.rule.boxes (length proposals) (length table)) p proposals each heard table

-- the same where the rule may be declined: then nothing is opened
abbrev pub RunsAsked : Option RuleFault → Protocol ℕ → List ℕ → ℕ → List ℕ → List (Slip ℕ) → List (Slip ℕ) → Result (Unit {0}) RunFault → List (Slip ℕ) → List (Slip ℕ) → Type 0
RunsAsked (Some f) p proposals each heard table sheet answer table' sheet' = (answer ≡ Err (Rule f)) × (table' ≡ table) × (sheet' ≡ sheet)
RunsAsked None p proposals each heard table sheet answer table' sheet' = Runs p proposals each heard table sheet answer table' sheet'
