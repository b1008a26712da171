-- The lines of a head, and how many they are. Assumes nothing.
use Rattle.std.proofs.Common.{◌≡◌, ℕ, ◌≤◌, Bool, true, false, cond, leb, List, length, Ok, Err, Result, refl, ap, ◌∙◌}
use Rattle.std.proofs.lemmas.Bool.{leb-true}
use Rattle.quorum.specs.Rules.{Family}
use Rattle.shift.specs.declared.faults.Cause.TheVariants.{Long}
use Rattle.shift.specs.declared.faults.TextFault.{TextFault}
use Rattle.shift.specs.declared.names.ProcedureName.{ProcedureName}
use Rattle.shift.specs.declared.names.ProcedureName.TheVariants.{Fast, Observing, Latest}
use Rattle.shift.specs.declared.names.RuleName.{RuleName}
use Rattle.shift.specs.declared.names.RuleName.TheVariants.{Majority, Thirds, Anchored}
use Rattle.shift.specs.Faults.{at_line}
use Rattle.shift.specs.Lines.{longest, unless_long}
use Rattle.office.specs.declared.named_procedure.NamedProcedure.{NamedProcedure}
use Rattle.quorum.specs.declared.chosen.ChosenRule.{ChosenRule}
use Rattle.quorum.specs.Chosen.{clear_of, family_of}
use Rattle.office.specs.Named.{asked_for, clear_by, meant, over, rule_by}

-- a text of which something is read is not too long
short_by : {X : Type 0} (b : Bool) (x : X) (r : Result X TextFault) → Ok x ≡ cond b r (Err (at_line Long 1)) → b ≡ true
short_by true x r e = refl
short_by false x r e = cc

pub short : {X : Type 0} (text : List ℕ) (x : X) (r : Result X TextFault) → Ok x ≡ unless_long text r → length text ≤ longest
short text x r e = leb-true (length text) longest (short_by (leb (length text) longest) x r e)

-- the roster of a rule and of a procedure that are asked for
pub rule_boxes : (r : RuleName) (n : ℕ) → (rule_by r n).boxes ≡ n
rule_boxes Majority n = refl
rule_boxes Thirds n = refl
rule_boxes Anchored n = refl

pub over_boxes : (p : ProcedureName) (f : Family) (clear : ℕ → Bool) → (over p f clear).rule.boxes ≡ f.boxes
over_boxes Fast f clear = refl
over_boxes Observing f clear = refl
over_boxes Latest f clear = refl

pub asked_boxes : (r : RuleName) (p : ProcedureName) (n : ℕ) → (asked_for r p n).rule.boxes ≡ n
asked_boxes r p n = over_boxes p (rule_by r n) (clear_by r n) ∙ rule_boxes r n

pub meant_boxes : (made : NamedProcedure) (p : ProcedureName) (rule : ChosenRule) (r : RuleName) (n : ℕ) → meant made ≡ over p (family_of rule) (clear_of rule) → family_of rule ≡ rule_by r n → (meant made).rule.boxes ≡ n
meant_boxes made p rule r n is named = ap (λ q. q.rule.boxes) is ∙ over_boxes p (family_of rule) (clear_of rule) ∙ ap (λ f. f.boxes) named ∙ rule_boxes r n
