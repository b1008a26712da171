-- The rule and the procedure that a text's names ask for. Assumes nothing.
use Rattle.std.specs.Prelude.{ℕ, Bool}
use Rattle.quorum.specs.Chosen.{clear_of, family_of}
use Rattle.quorum.specs.Families.{anchored, at_least, majority, present, sizes, thirds}
use Rattle.quorum.specs.Rules.{Family}
use Rattle.setup.specs.Kinds.{number_before}
use Rattle.agreement.specs.Protocols.{Protocol}
use Rattle.procedures.specs.Fast.{fast}
use Rattle.procedures.specs.Latest.{latest}
use Rattle.procedures.specs.Observing.{observing}
use Rattle.shift.specs.declared.names.ProcedureName.{ProcedureName}
use Rattle.shift.specs.declared.names.ProcedureName.TheVariants as procedure
use Rattle.shift.specs.declared.names.RuleName.{RuleName}
use Rattle.shift.specs.declared.names.RuleName.TheVariants as rule
use Rattle.office.specs.declared.named_procedure.NamedProcedure.{NamedProcedure}
use Rattle.office.specs.declared.named_procedure.NamedProcedure.TheVariants.{Fast, Observing, Latest}

-- the quorums of n boxes under the rule of that name: anchored stands on box 0, over majority
abbrev pub rule_by : RuleName → ℕ → Family
rule_by rule.Majority n = majority n
rule_by rule.Thirds n = sizes n (thirds n)
rule_by rule.Anchored n = anchored 0 (majority n)

-- the sets that are clear over it: under thirds more than two thirds of the boxes, else all boxes
abbrev pub clear_by : RuleName → ℕ → ℕ → Bool
clear_by rule.Majority n = present (rule_by rule.Majority n)
clear_by rule.Thirds n = at_least n (thirds n)
clear_by rule.Anchored n = present (rule_by rule.Anchored n)

-- the procedure of that name over a rule and its clear sets, for setup numbers
abbrev pub over : ProcedureName → Family → (ℕ → Bool) → Protocol ℕ
over procedure.Fast f clear = fast number_before f clear
over procedure.Observing f clear = observing number_before f
over procedure.Latest f clear = latest number_before f

-- the procedure that n boxes run where the text has these names
abbrev pub asked_for : RuleName → ProcedureName → ℕ → Protocol ℕ
asked_for r p n = over p (rule_by r n) (clear_by r n)

-- the procedure that a value of the code means
abbrev pub meant : NamedProcedure → Protocol ℕ
meant (Fast x) = over procedure.Fast (family_of x.rule) (clear_of x.rule)
meant (Observing x) = over procedure.Observing (family_of x.rule) (clear_of x.rule)
meant (Latest x) = over procedure.Latest (family_of x.rule) (clear_of x.rule)
