-- The standard licence: which rule it runs, and what its opening answers. Assumes nothing.
use Rattle.std.specs.Prelude.{◌≡◌, ℕ, Bool, List, Some, None, Err, Option, Result}
use Rattle.quorum.specs.Families.{anchored, majority}
use Rattle.quorum.specs.Making.{no_roster}
use Rattle.quorum.specs.Rules.{Family}
use Rattle.quorum.specs.declared.anchored.Anchored.{Anchored}
use Rattle.quorum.specs.declared.majority.Majority.{Majority}
use Rattle.quorum.specs.declared.refusals.RuleFault.{RuleFault}
use Rattle.agreement.specs.declared.clocks.Clock.{Clock}
use Rattle.agreement.specs.declared.faults.RunFault.{RunFault}
use Rattle.agreement.specs.declared.faults.RunFault.TheVariants as fault
use Rattle.agreement.specs.declared.slips.Slip.{Slip}
use Rattle.agreement.specs.Calls.{Opens}
use Rattle.agreement.specs.Protocols.{Protocol}
use Rattle.procedures.specs.Latest.{latest}

-- the rule of the standard licence: the majorities of n boxes that contain box 0
abbrev pub standard : ℕ → Family
standard n = anchored 0 (majority n)

-- the rule that the code makes, whichever box it is anchored on
abbrev pub standard_family : Anchored Majority → Family
standard_family x = anchored x.anchor (majority x.rule.roster.boxes)

-- the procedure of the standard licence
abbrev pub licensed : {V : Type 0} → (V → V → Bool) → ℕ → Protocol V
licensed before n = latest before (standard n)

-- with a fault of the rule it is declined with that fault, and the table stays; without one it opens as every run does
abbrev pub OpensOrNot : {V : Type 0} → Option RuleFault → Protocol V → List V → List (Slip V) → Result Clock RunFault → List (Slip V) → Type 0
OpensOrNot (Some f) p proposals table answer table' = (answer ≡ Err (fault.Rule f)) × (table' ≡ table)
OpensOrNot None p proposals table answer table' = Opens p proposals table answer table'

-- the opening of the standard licence of n boxes
abbrev pub OpensLicence : {V : Type 0} → (V → V → Bool) → ℕ → List V → List (Slip V) → Result Clock RunFault → List (Slip V) → Type 0
OpensLicence before n proposals table answer table' = OpensOrNot (no_roster n) (licensed before n) proposals table answer table'
