-- Each refusal's number, each layer's word, what the faults of a rule report, and what a call that may decline answers. Assumes nothing.
use Rattle.std.specs.Prelude.{◌≡◌, ℕ, Bool, cond, List, Some, None, Ok, Err, codes, Option, Result}
use Rattle.quorum.specs.declared.refusals.Fault.{Fault}
use Rattle.quorum.specs.declared.refusals.Layer.{Layer}
use Rattle.quorum.specs.declared.refusals.Layer.TheVariants as layer
use Rattle.quorum.specs.declared.refusals.Refusal.{Refusal}
use Rattle.quorum.specs.declared.refusals.Refusal.TheVariants as refusal
use Rattle.quorum.specs.declared.refusals.RuleFault.{RuleFault}
use Rattle.quorum.specs.declared.refusals.RuleFault.TheVariants as rule

abbrev pub number : Refusal → ℕ
number refusal.Roster = 1
number refusal.OtherRoster = 2
number refusal.Size = 3
number refusal.NoBox = 4
number refusal.Length = 5
number refusal.Closed = 6
number refusal.Stranger = 7
number refusal.Wait = 8
number refusal.NoRow = 9
number refusal.Defection = 10
number refusal.Unbacked = 11
number refusal.Long = 12
number refusal.Key = 13
number refusal.Value = 14

abbrev pub word : Layer → List ℕ
word layer.Rule = codes "rule"
word layer.Run = codes "run"
word layer.Book = codes "book"
word layer.Text = codes "text"

abbrev reason : RuleFault → Refusal
reason rule.Roster = refusal.Roster
reason rule.Size = refusal.Size
reason rule.NoBox = refusal.NoBox

-- a fault in the making of a rule names no place
abbrev pub of_rule : RuleFault → Fault
of_rule f = record { refusal = reason f; layer = layer.Rule; place = 0 }

-- What a call that may decline returns: the value described, where there is no reason to decline, and else that reason.
abbrev pub Answers : {X F : Type 0} → Option F → (X → Type 0) → Result X F → Type 0
Answers None P (Ok x) = P x
Answers None P (Err f) = ⊥
Answers (Some g) P (Ok x) = ⊥
Answers (Some g) P (Err f) = f ≡ g

-- The same of a call that also changes things: without a reason to decline, what `done` says of the value holds; with one, what `kept` says.
abbrev pub Does : {X F : Type 0} → Option F → (X → Type 0) → Type 0 → Result X F → Type 0
Does None done kept (Ok x) = done x
Does None done kept (Err f) = ⊥
Does (Some g) done kept (Ok x) = ⊥
Does (Some g) done kept (Err f) = (f ≡ g) × kept

-- the reason of the first check, and else that of the second
abbrev pub either : {F : Type 0} → Option F → Option F → Option F
either None g = g
either (Some f) g = Some f

-- the reason, unless the test holds
abbrev pub unless : {F : Type 0} → Bool → F → Option F
unless test f = cond test None (Some f)
