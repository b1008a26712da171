-- What the calls tell, as numbers. Assumes nothing.
use Rattle.std.specs.Prelude.{◌≡◌, ℕ, ◌+◌, Bool, cond, List, ◌++◌, length, map, min, replicate, take, drop, Some, None, Ok, Err, Option, Result}
use Rattle.quorum.specs.declared.refusals.RuleFault.{RuleFault}
use Rattle.quorum.specs.Refusals.{of_rule}
use Rattle.agreement.specs.declared.faults.RunFault.{RunFault}
use Rattle.agreement.specs.declared.slips.Slip.{Slip}
use Rattle.agreement.specs.Faults.{of_run}
use Rattle.agreement.specs.Slips.{opening}
use Rattle.exports.specs.declared.flat.FlatSlip.{FlatSlip}
use Rattle.exports.specs.declared.numbers.RuleNumbers.{RuleNumbers}
use Rattle.exports.specs.Asked.{asked, clear_asked, no_procedure, no_rule, procedure}
use Rattle.exports.specs.Flat.{flat_fault, flat_slip}
use Rattle.exports.specs.Runs.{RunsAsked}

-- ---- a rule

-- the fault that the rule's making finds; without one 1 for a quorum and 2 for a clear set, added
abbrev pub answers_or : Option RuleFault → Bool → Bool → ℕ
answers_or (Some f) quorum clear = flat_fault (of_rule f)
answers_or None quorum clear = cond quorum 1 0 + cond clear 2 0

abbrev pub rule_told : RuleNumbers → ℕ → ℕ
rule_told r set = answers_or (no_rule r) ((asked r).quorum set) (clear_asked r set)

-- ---- a run

-- 0 where the last call was taken
abbrev pub run_number : Result (Unit {0}) RunFault → ℕ
run_number (Ok u) = 0
run_number (Err f) = flat_fault (of_run f)

-- how many slips a run is lent of n that are passed: 40 at most
abbrev pub lent : ℕ → ℕ
lent n = min n 40

-- the n slips that are passed, as a run is lent them
abbrev pub blank : ℕ → List (Slip ℕ)
blank n = take (lent n) (replicate 40 (opening 0))

-- these slips over the front of what is lent
abbrev pub slips_written_over : List (Slip ℕ) → List FlatSlip → List FlatSlip
slips_written_over slips old = map flat_slip slips ++ drop (lent (length old)) old

-- What a run tells: it has as many slips as are lent, and they are written over what is lent.
pub record RunTold (r : RuleNumbers) (k : ℕ) (proposals : List ℕ) (each : ℕ) (heard : List ℕ) (table sheet : List FlatSlip) (number : ℕ) (table' sheet' : List FlatSlip) : Type 0 where
  pub answer : Result (Unit {0}) RunFault
  pub slips : List (Slip ℕ)
  pub former : List (Slip ℕ)
  pub runs : RunsAsked (no_procedure k r) (procedure k r) proposals each heard (blank (length table)) (blank (length sheet)) answer slips former
  pub told : number ≡ run_number answer
  pub slips_told : table' ≡ slips_written_over slips table
  pub former_told : sheet' ≡ slips_written_over former sheet
