-- The phases that are shown are numbered in order. Assumes nothing.
use Rattle.std.proofs.Common.{◌≡◌, ℕ, zero, suc, ◌+◌, ◌<◌, Bool, true, false, cond, List, [], ◌∷◌, length, get_or, Some, None, Ok, Err, Option, Result, refl, sym, ◌∙◌, subst, nat_lt, ◌==◌, arith}
use Rattle.std.proofs.lemmas.Bool.{ne_eqb}
use Rattle.quorum.specs.declared.refusals.Refusal.{Refusal}
use Rattle.agreement.specs.declared.clocks.Clock.{Clock}
use Rattle.agreement.specs.declared.slips.Slip.{Slip}
use Rattle.agreement.specs.Promise.{Moment}
use Rattle.agreement.specs.Protocols.{Protocol, beaten}
use Rattle.agreement.specs.Slips.{casts, held}
use Rattle.shift.specs.declared.faults.Cause.TheVariants.{Key}
use Rattle.shift.specs.declared.faults.TextFault.{TextFault}
use Rattle.shift.specs.Entries.{after}
use Rattle.shift.specs.Faults.{at_line}
use Rattle.office.specs.Agreed.{phase_numbers}
use Rattle.office.specs.Answers.{beats, beats_by, ended_phase, line_ends, outcome, outcome_by, refused, start, with_beat}
use Rattle.office.specs.Heads.{Begun, beat}
use Rattle.office.specs.Shown.{Shown, and_after}
use Rattle.office.specs.Shown.Shown.{fault, phase}

-- ---- numbers in order

-- the first number is k, and each other is one more than the one before
abbrev Counted : ℕ → List ℕ → Type 0
Counted k [] = Unit {0}
Counted k (n ∷ ns) = (n ≡ k) × Counted (suc k) ns

-- so each is k and as many more as stand before it
counted_at : (k : ℕ) (ns : List ℕ) → Counted k ns → (s : ℕ) → s < length ns → get_or ns s 0 ≡ k + s
counted_at k [] c s lt = absurd (omega arith)
counted_at k (n ∷ ns) c zero lt = c.0 ∙ omega arith
counted_at k (n ∷ ns) c (suc s) lt = counted_at (suc k) ns c.1 s (omega arith) ∙ omega arith

-- ---- what is shown of beats

-- the moment after a beat that is taken, as the phase has another beat or ends
abbrev clocked : Bool → Clock → List (Slip ℕ) → Moment ℕ
clocked more c table = record { clock = cond more (record { phase = c.phase; beat = c.beat + 1 }) (record { phase = c.phase + 1; beat = 0 }); table = table }

-- the phases that are shown are numbered from the one on that is due at the moment
abbrev From : Moment ℕ → List Shown → Type 0
From m es = Counted m.clock.phase (phase_numbers es)

-- a phase that ends is the one that was due, and the next one is due then
ended_counted : (more : Bool) (c : Clock) (table : List (Slip ℕ)) (es : List Shown) → From (clocked more c table) es
    → Counted c.phase (phase_numbers (and_after (ended_phase c.phase (clocked more c table)) es))
ended_counted true c table es r =
    subst (λ (b : Bool). Counted c.phase (phase_numbers (and_after (cond b (Some (phase c.phase (casts table) (held table))) None) es)))
    (sym (ne_eqb (c.beat + 1) 0 (λ e. omega (arith, e)))) r
ended_counted false c table es r = (refl, subst (λ (k : ℕ). Counted k (phase_numbers es)) (omega arith) r)

-- what stands after the last line end shows no phase
rest_counted : (b : Bool) (f : TextFault) (m : Moment ℕ) → From m (cond b [] (fault f ∷ []))
rest_counted true f m = tt
rest_counted false f m = tt

module _ (p : Protocol ℕ) where
  -- so it is with every beat: one that is declined shows no phase, and the same phase stays due
  shown_counted : (o : Option Refusal) (m : Moment ℕ) (heard : List ℕ) (es : List Shown) → From (outcome_by o p m heard).1 es → From m (and_after (outcome_by o p m heard).0 es)
  shown_counted None m heard es r = ended_counted (nat_lt (m.clock.beat + 1) p.beats) m.clock (beaten p m.clock.phase m.clock.beat heard m.table) es r
  shown_counted (Some f) m heard es r = r

  -- so what the lines show is numbered from the phase on that is due before them
  beats_counted : (m : Moment ℕ) (n k : ℕ) (t : List ℕ) → From m (beats_by p m n k t)
  beats_counted m n zero t = rest_counted (length t == 0) (at_line Key n) m
  beats_counted m n (suc k) t = go (beat n t) (λ heard. beats_counted (outcome p m heard).1 (n + 1) k (after t))
    where
      then : Moment ℕ → List Shown
      then m' = beats_by p m' (n + 1) k (after t)

      go : (l : Result (List ℕ) TextFault) → ((heard : List ℕ) → From (outcome p m heard).1 (then (outcome p m heard).1)) → From m (with_beat p m l then)
      go (Ok heard) ih = shown_counted (refused p m heard) m heard (then (outcome p m heard).1) (ih heard)
      go (Err f) ih = tt

-- the phases of a run that a text begins are numbered from 0
pub head_numbered : (h : Begun) (s : ℕ) → s < length (phase_numbers (beats h.procedure (start h.proposals) h.line h.rest)) → get_or (phase_numbers (beats h.procedure (start h.proposals) h.line h.rest)) s 0 ≡ s
head_numbered h s lt =
    let shown = beats h.procedure (start h.proposals) h.line h.rest in
    counted_at 0 (phase_numbers shown) (beats_counted h.procedure (start h.proposals) h.line (line_ends h.rest) h.rest) s lt ∙ omega arith
