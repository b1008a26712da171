-- A run that beats are offered to, one after another: what its boxes hold at its moments. Assumes nothing.
use Rattle.std.proofs.Common.{◌≡◌, ℕ, zero, suc, ◌+◌, ◌≤◌, Bool, List, [], ◌∷◌, map, length, Some, None, Ok, Err, Option, Result, refl, sym, ap, ◌∙◌, subst, arith}
use Rattle.std.proofs.lemmas.Bool.{eq-eqb}
use Rattle.std.specs.Option.{option_map}
use Rattle.quorum.specs.Boxes.{IsLowest}
use Rattle.quorum.specs.Refusals.{Does, either, unless}
use Rattle.quorum.proofs.Lowest.{lowest_is_lowest}
use Rattle.setup.specs.Kinds.{number_before}
use Rattle.setup.specs.Lawful.{unsigned_ordered}
use Rattle.quorum.specs.declared.refusals.Refusal.{Refusal}
use Rattle.agreement.specs.declared.faults.RunFault.{RunFault}
use Rattle.agreement.specs.declared.faults.RunFault.TheVariants as fault
use Rattle.agreement.specs.Calls.{Waiting, beginning, no_opening, waits}
use Rattle.agreement.specs.Inside.{lowest_waiting, no_beat_lowest}
use Rattle.agreement.specs.Laws.{Lawful}
use Rattle.agreement.specs.Promise.{Call, Holds, Leaves, Moment, Promised, Worked, beat}
use Rattle.agreement.specs.Protocols.{Protocol}
use Rattle.agreement.specs.Slips.{Stands, opened}
use Rattle.agreement.proofs.Entries.{beaten_length}
use Rattle.agreement.proofs.Promising.{promised}
use Rattle.office.specs.Answers.{refusal_of, outcome, outcome_by, refused, start}

-- ---- the moments and the calls

-- the moment after a beat
abbrev pub moved_by : Option Refusal → Protocol ℕ → Moment ℕ → List ℕ → Moment ℕ
moved_by r p m heard = (outcome_by r p m heard).1

abbrev pub moved : Protocol ℕ → Moment ℕ → List ℕ → Moment ℕ
moved p m heard = (outcome p m heard).1

-- the moment after so many beats, from this one on: of these heard sets, and then of empty lists of them
abbrev pub after : Protocol ℕ → Moment ℕ → List (List ℕ) → ℕ → Moment ℕ
after p m hs zero = m
after p m [] (suc t) = after p (moved p m []) [] t
after p m (heard ∷ hs) (suc t) = after p (moved p m heard) hs t

-- why the run declines a beat
abbrev reason : Protocol ℕ → Moment ℕ → List ℕ → Option RunFault
reason p m heard = no_beat_lowest p m.clock p.rule.boxes p.rule.boxes heard

-- the beat as a call, the sheet being a copy of the table
abbrev call_by : Option RunFault → Moment ℕ → List ℕ → Call ℕ
call_by None m heard = beat m.table heard (Ok tt) m.table
call_by (Some f) m heard = beat m.table heard (Err f) m.table

abbrev call : Protocol ℕ → Moment ℕ → List (List ℕ) → ℕ → Call ℕ
call p m [] zero = call_by (reason p m []) m []
call p m (heard ∷ hs) zero = call_by (reason p m heard) m heard
call p m [] (suc t) = call p (moved p m []) [] t
call p m (heard ∷ hs) (suc t) = call p (moved p m heard) hs t

-- what a call does with this reason, it does with an equal one
does_as : {X F : Type 0} (reason r : Option F) (done : X → Type 0) (kept : Type 0) (answer : Result X F) → reason ≡ r → Does r done kept answer → Does reason done kept answer
does_as {X} {F} reason r done kept answer e = subst (λ (o : Option F). Does o done kept answer) (sym e)

opened_length : (vs : List ℕ) → length (opened {V = ℕ} vs) ≡ length vs
opened_length [] = refl
opened_length (v ∷ vs) = ap suc (opened_length vs)

module _ (p : Protocol ℕ) where
  -- the lowest box that must wait is one
  waiting : (m : Moment ℕ) (heard : List ℕ) → Waiting p m.clock.phase m.clock.beat heard (lowest_waiting p m.clock heard)
  waiting m heard = go (lowest_waiting p m.clock heard) (lowest_is_lowest (waits p m.clock.phase m.clock.beat heard) p.rule.boxes)
    where
      go : (w : Option ℕ) → IsLowest (waits p m.clock.phase m.clock.beat heard) p.rule.boxes w → Waiting p m.clock.phase m.clock.beat heard w
      go None is = is
      go (Some i) is = (is.0, is.1)

  -- a beat that is offered is such a call, on a table with a slip for each box
  leaves : (m : Moment ℕ) (heard : List ℕ) → length m.table ≡ p.rule.boxes → Leaves p m (call_by (reason p m heard) m heard) (moved p m heard)
  leaves m heard size = go (reason p m heard) (ap (λ (k : ℕ). no_beat_lowest p m.clock k k heard) size)
    where
      go : (r : Option RunFault) → no_beat_lowest p m.clock (length m.table) (length m.table) heard ≡ r
          → Leaves p m (call_by r m heard) (moved_by (option_map refusal_of r) p m heard)
      go None is = (lowest_waiting p m.clock heard, waiting m heard, does_as _ None _ _ (Ok tt) is (refl, refl, refl))
      go (Some f) is = (lowest_waiting p m.clock heard, waiting m heard, does_as _ (Some f) _ _ (Err f) is (refl, (refl, refl, refl)))

  -- and it leaves as many slips as there were, so every later one is such a call too
  pub moved_length : (m : Moment ℕ) (heard : List ℕ) → length (moved p m heard).table ≡ length m.table
  moved_length m heard = go (refused p m heard)
    where
      go : (r : Option Refusal) → length (moved_by r p m heard).table ≡ length m.table
      go None = beaten_length p m.clock.phase m.clock.beat heard m.table
      go (Some f) = refl

  all_leave : (m : Moment ℕ) (hs : List (List ℕ)) (t : ℕ) → length m.table ≡ p.rule.boxes → Leaves p (after p m hs t) (call p m hs t) (after p m hs (suc t))
  all_leave m [] zero size = leaves m [] size
  all_leave m (heard ∷ hs) zero size = leaves m heard size
  all_leave m [] (suc t) size = all_leave (moved p m []) [] t (moved_length m [] ∙ size)
  all_leave m (heard ∷ hs) (suc t) size = all_leave (moved p m heard) hs t (moved_length m heard ∙ size)

  after_length : (m : Moment ℕ) (hs : List (List ℕ)) (t : ℕ) → length (after p m hs t).table ≡ length m.table
  after_length m hs zero = refl
  after_length m [] (suc t) = after_length (moved p m []) [] t ∙ moved_length m []
  after_length m (heard ∷ hs) (suc t) = after_length (moved p m heard) hs t ∙ moved_length m heard

  -- ---- the promise

  module _ (law : Lawful p) (proposals : List ℕ) (proposed : length proposals ≡ p.rule.boxes) (hs : List (List ℕ)) where
    -- the moment after so many beats, from the opening on
    abbrev pub at : ℕ → Moment ℕ
    at = after p (start proposals) hs

    -- the beats work a run
    worked : (calls : ℕ) → Worked p proposals calls (call p (start proposals) hs) at
    worked calls = record {
      found = opened proposals;
      opens = does_as _ None _ _ (Ok beginning) opens (refl, refl);
      goes = λ t lt. all_leave (start proposals) hs t size;
    }
      where
        size : length (opened proposals) ≡ p.rule.boxes
        size = opened_length proposals ∙ proposed

        -- the lists of the opening have the roster's length
        opens : no_opening p.rule.boxes (length proposals) (length (opened proposals)) ≡ None
        opens =
            ap (λ (k : ℕ). no_opening p.rule.boxes k (length (opened proposals))) proposed
            ∙ ap (no_opening p.rule.boxes p.rule.boxes) size
            ∙ ap (λ (b : Bool). either (unless b (fault.Length 1)) (unless b (fault.Length 2))) (eq-eqb p.rule.boxes p.rule.boxes refl)

    -- so it keeps the promise, however many of them are offered
    promise : (calls : ℕ) → Promised number_before p proposals calls (call p (start proposals) hs) at
    promise calls = promised unsigned_ordered p law proposals calls (call p (start proposals) hs) at (worked calls)

    -- what is held at one moment and at another, and where it is from
    pub one : (s t i j v w : ℕ) → Holds (at s) i v → Holds (at t) j w → v ≡ w
    one s t i j v w = (promise (s + t)).agreement.one s t i j v w (omega arith) (omega arith)

    pub stays : (s t i v : ℕ) → s ≤ t → Holds (at s) i v → Holds (at t) i v
    stays s t i v le = (promise t).agreement.stays s t i v le (omega arith)

    pub valid : (s i v : ℕ) → Holds (at s) i v → Stands v (map Some proposals)
    valid s i v = (promise s).validity s i v (omega arith)

    -- every moment has a slip for each box
    pub boxes : (s : ℕ) → length (at s).table ≡ length proposals
    boxes s = after_length (start proposals) hs s ∙ opened_length proposals
