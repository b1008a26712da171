-- What the lines of a text say: the head that it begins with, and the beats. Assumes nothing.
use Rattle.std.specs.Prelude.{ℕ, zero, suc, ◌+◌, List, [], ◌∷◌, Some, None, Ok, Err, codes, Option, Result}
use Rattle.std.specs.Option.{ok_or}
use Rattle.quorum.specs.declared.refusals.RuleFault.{RuleFault}
use Rattle.quorum.specs.Making.{no_roster}
use Rattle.agreement.specs.declared.faults.RunFault.{RunFault}
use Rattle.agreement.specs.declared.faults.RunFault.TheVariants.{Rule}
use Rattle.agreement.specs.Protocols.{Protocol}
use Rattle.shift.specs.declared.faults.Spot.{Spot}
use Rattle.shift.specs.declared.faults.TextFault.{TextFault}
use Rattle.shift.specs.Entries.{after}
use Rattle.shift.specs.Faults.{at_run, no_value}
use Rattle.shift.specs.Lines.{due}
use Rattle.shift.specs.Lists.{numbers}
use Rattle.shift.specs.Names as names
use Rattle.shift.specs.Numbers.{number}
use Rattle.shift.specs.Told.{and_then}
use Rattle.office.specs.Named.{asked_for}

-- what the value of a line says, by its form
abbrev pub valued : {X : Type 0} → (List ℕ → Option X) → List ℕ × List ℕ × Spot → Result X TextFault
valued form p = ok_or (form p.1) (no_value p.2)

abbrev pub said : {X : Type 0} → (List ℕ → Option X) → Result (List ℕ × List ℕ × Spot) TextFault → Result X TextFault
said form line = and_then line (valued form)

-- what line n says, the first of the text t, which is to have the key
abbrev pub field : {X : Type 0} → List ℕ → (List ℕ → Option X) → ℕ → List ℕ → Result X TextFault
field key form n t = said form (due key n t)

-- what line n says, which is to be a beat: the heard sets, box by box
abbrev pub beat : ℕ → List ℕ → Result (List ℕ) TextFault
beat n t = field (codes "beat") numbers n t

-- a roster of b boxes: a rule's fault is inside a run's
abbrev pub judged_by : ℕ → Option RuleFault → Result ℕ RunFault
judged_by b None = Ok b
judged_by b (Some f) = Err (Rule f)

abbrev pub judged : ℕ → Result ℕ RunFault
judged b = judged_by b (no_roster b)

-- the same, asked for at the spot: a run's fault is inside a text's
abbrev pub at_spot : {X : Type 0} → Spot → Result X RunFault → Result X TextFault
at_spot s (Ok x) = Ok x
at_spot s (Err f) = Err (at_run f s)

-- the line `boxes`: the roster is judged on its own line
abbrev pub roster : ℕ → List ℕ → Result ℕ TextFault
roster n t = and_then (due (codes "boxes") n t) (λ p. and_then (valued number p) (λ b. at_spot p.2 (judged b)))

-- k lines `setup`
abbrev pub setups : ℕ → ℕ → List ℕ → Result (List ℕ) TextFault
setups zero n t = Ok []
setups (suc k) n t = and_then (field (codes "setup") number n t) (λ s. and_then (setups k (n + 1) (after t)) (λ ss. Ok (s ∷ ss)))

-- what is left of a text after k lines
abbrev pub past : ℕ → List ℕ → List ℕ
past zero t = t
past (suc k) t = past k (after t)

-- what a head asks for: the procedure, and the setups that the boxes propose; and the line that comes next, with what is left of the text
pub record Begun : Type 0 where
  pub procedure : Protocol ℕ
  pub proposals : List ℕ
  pub line : ℕ
  pub rest : List ℕ

-- the lines of a head, from line n on
abbrev pub head : ℕ → List ℕ → Result Begun TextFault
head n t =
    and_then (roster n t) (λ boxes.
    and_then (field (codes "rule") names.rule (n + 1) (after t)) (λ rule.
    and_then (field (codes "procedure") names.procedure (n + 2) (after (after t))) (λ procedure.
    and_then (setups boxes (n + 3) (after (after (after t)))) (λ ss.
    Ok (record { procedure = asked_for rule procedure boxes; proposals = ss; line = n + 3 + boxes; rest = past boxes (after (after (after t))) })))))
