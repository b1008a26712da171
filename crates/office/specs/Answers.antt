-- The answer to a shift: what is shown of the bytes of its text. Assumes nothing.
use Rattle.std.specs.Prelude.{ℕ, zero, suc, ◌+◌, cond, List, [], ◌∷◌, length, Some, None, Ok, Err, Option, Result, ◌==◌}
use Rattle.std.specs.List.{count_by}
use Rattle.std.specs.Option.{option_map}
use Rattle.quorum.specs.declared.refusals.Refusal.{Refusal}
use Rattle.agreement.specs.declared.faults.RunFault.{RunFault}
use Rattle.agreement.specs.Calls.{advanced, beginning}
use Rattle.agreement.specs.Faults.{of_run}
use Rattle.agreement.specs.Inside.{no_beat_lowest}
use Rattle.agreement.specs.Promise.{Moment}
use Rattle.agreement.specs.Protocols.{Protocol, beaten}
use Rattle.agreement.specs.Slips.{casts, held, opened}
use Rattle.shift.specs.declared.classes.Class.TheVariants.{LineEnd}
use Rattle.shift.specs.declared.faults.Cause.TheVariants.{Key}
use Rattle.shift.specs.declared.faults.TextFault.{TextFault}
use Rattle.shift.specs.Classes.{is}
use Rattle.shift.specs.Entries.{after}
use Rattle.shift.specs.Faults.{at_line}
use Rattle.shift.specs.Lines.{unless_long}
use Rattle.office.specs.Heads.{Begun, beat, head}
use Rattle.office.specs.Shown.{Shown, and_after}
use Rattle.office.specs.Shown.Shown.{declined, fault, phase}

-- ---- one beat

-- the refusal that a run's fault is, whatever place it names
abbrev pub refusal_of : RunFault → Refusal
refusal_of f = (of_run f).refusal

-- why a run at this moment declines a beat with these heard sets
abbrev pub refused : Protocol ℕ → Moment ℕ → List ℕ → Option Refusal
refused p m heard = option_map refusal_of (no_beat_lowest p m.clock p.rule.boxes p.rule.boxes heard)

-- the moment after a beat that is taken
abbrev pub following : Protocol ℕ → Moment ℕ → List ℕ → Moment ℕ
following p m heard = record { clock = advanced p.beats m.clock; table = beaten p m.clock.phase m.clock.beat heard m.table }

-- phase k, where it has ended: beat 0 of the next one is due
abbrev pub ended_phase : ℕ → Moment ℕ → Option Shown
ended_phase k m = cond (m.clock.beat == 0) (Some (phase k (casts m.table) (held m.table))) None

-- what comes of a beat: what is shown of it, and the moment after it. One that is declined is shown, and moves nothing.
abbrev pub outcome_by : Option Refusal → Protocol ℕ → Moment ℕ → List ℕ → Option Shown × Moment ℕ
outcome_by None p m heard = (ended_phase m.clock.phase (following p m heard), following p m heard)
outcome_by (Some r) p m heard = (Some (declined r), m)

abbrev pub outcome : Protocol ℕ → Moment ℕ → List ℕ → Option Shown × Moment ℕ
outcome p m heard = outcome_by (refused p m heard) p m heard

-- ---- the beats

-- what comes of a line's heard sets, and then of the moment after it; a fault ends it
abbrev pub with_beat : Protocol ℕ → Moment ℕ → Result (List ℕ) TextFault → (Moment ℕ → List Shown) → List Shown
with_beat p m (Ok heard) rest = and_after (outcome p m heard).0 (rest (outcome p m heard).1)
with_beat p m (Err f) rest = fault f ∷ []

-- the lines of the text t, from line n on, as beats of a run at this moment; t has k line ends, and nothing may stand after the last one
abbrev pub beats_by : Protocol ℕ → Moment ℕ → ℕ → ℕ → List ℕ → List Shown
beats_by p m n zero t = cond (length t == 0) [] (fault (at_line Key n) ∷ [])
beats_by p m n (suc k) t = with_beat p m (beat n t) (λ m'. beats_by p m' (n + 1) k (after t))

abbrev pub line_ends : List ℕ → ℕ
line_ends t = count_by (is LineEnd) t

abbrev pub beats : Protocol ℕ → Moment ℕ → ℕ → List ℕ → List Shown
beats p m n t = beats_by p m n (line_ends t) t

-- ---- the whole

-- the moment after the opening on these proposals
abbrev pub start : List ℕ → Moment ℕ
start proposals = record { clock = beginning; table = opened proposals }

-- after a head the beats
abbrev pub after_head : Result Begun TextFault → List Shown
after_head (Ok h) = beats h.procedure (start h.proposals) h.line h.rest
after_head (Err f) = fault f ∷ []

-- what is shown of a text
abbrev pub answer : List ℕ → List Shown
answer text = after_head (unless_long text (head 1 text))
