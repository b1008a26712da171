-- The moments of a run, as phases and beats of one course of heard sets. Assumes nothing.
use Rattle.std.proofs.Common.{◌≡◌, ℕ, zero, suc, ◌+◌, ◌*◌, ◌<◌, ◌≤◌, Bool, true, false, cond, ◌&&◌, eqb, ◌⊎◌, List, [], length, Some, None, Option, sym, refl, ap, ◌∙◌, subst, inl, inr, mul-le-mul_right, arith}
use Rattle.std.proofs.lemmas.Bool.{and_from, and_parts, cases_Bool, cases_lt, cond-false, cond-true, eq-eqb, eqb-true, le-ltb, lt-ltb}
use Rattle.agreement.specs.declared.clocks.Clock.{Clock}
use Rattle.agreement.specs.declared.slips.Slip.{Slip}
use Rattle.agreement.specs.Calls.{advanced, beginning, no_opening, other_length}
use Rattle.agreement.specs.Laws.{AllAdmitted, Course, Lawful, last}
use Rattle.agreement.specs.Promise.{Call, Moment, Worked, taken}
use Rattle.agreement.specs.Protocols.{Protocol, beaten, through, within_phase}
use Rattle.agreement.specs.Slips.{opened}
use Rattle.quorum.proofs.Refused.{does_ok, either_none, unless_none}
use Rattle.quorum.proofs.Somes.{some_none}
use Rattle.agreement.proofs.Taking.{Comes, Taken, comes}

-- ---- the clock

-- the clock of a phase and beat
abbrev pub clock_of : ℕ → ℕ → Clock
clock_of k b = record { phase = k; beat = b }

-- the next beat of the phase, or, after the last one, the first of the next phase
abbrev pub Advances : ℕ → Clock → Type 0
Advances beats c = ((c.beat + 1 < beats) × (advanced beats c ≡ clock_of c.phase (suc c.beat))) ⊎ ((suc c.beat ≡ beats) × (advanced beats c ≡ clock_of (suc c.phase) 0))

pub advances : (beats : ℕ) (c : Clock) → c.beat < beats → Advances beats c
advances beats c lt = go (cases_lt (c.beat + 1) beats)
  where
    more : (n : ℕ) → n + 1 ≡ suc n
    more n = omega arith

    go : (c.beat + 1 < beats) ⊎ (beats ≤ c.beat + 1)
        → Advances beats c
    go (inl l) = inl (l, cond-true _ _ _ (lt-ltb _ _ l) ∙ ap (clock_of c.phase) (more c.beat))
    go (inr g) = inr (omega arith, cond-false _ _ _ (le-ltb _ _ g) ∙ ap (λ (k : ℕ). clock_of k 0) (more c.phase))

-- how many beats were taken before this one
abbrev pub position : ℕ → Clock → ℕ
position beats c = c.phase * beats + c.beat

pub position_next : (beats : ℕ) (c : Clock) → c.beat < beats → position beats (advanced beats c) ≡ suc (position beats c)
position_next beats c lt = go (advances beats c lt)
  where
    go : Advances beats c
        → position beats (advanced beats c) ≡ suc (position beats c)
    go (inl h) = ap (position beats) h.1 ∙ omega arith
    go (inr h) = ap (position beats) h.1 ∙ omega (arith, h.0)

-- an earlier phase lies before
pub position_less : (beats j k b d : ℕ) → j < k → b < beats → j * beats + b < k * beats + d
position_less beats j k b d lt l =
    let le : suc j * beats ≤ k * beats = mul-le-mul_right beats lt in
    omega arith

-- one position is one phase and beat
pub position_one : (beats j b k d : ℕ) → b < beats → d < beats → j * beats + b ≡ k * beats + d → (j ≡ k) × (b ≡ d)
position_one beats j b k d lb ld e = go (cases_lt j k) (cases_lt k j)
  where
    go : (j < k) ⊎ (k ≤ j) → (k < j) ⊎ (j ≤ k) → (j ≡ k) × (b ≡ d)
    go (inl lt) c = absurd (omega (arith, position_less beats j k b d lt lb))
    go (inr le) (inl lt) = absurd (omega (arith, position_less beats k j d b lt ld))
    go (inr le) (inr ge) =
        let same : j ≡ k = omega arith in
        let times = ap (λ (x : ℕ). x * beats) same in
        (same, omega arith)

-- ---- the course

-- the table when this beat is due
abbrev pub table_at : {V : Type 0} → Protocol V → List V → (ℕ → ℕ → List ℕ) → Clock → List (Slip V)
table_at p proposals heard c = within_phase p heard c.phase c.beat (through p heard c.phase (opened proposals))

pub table_next : {V : Type 0} (p : Protocol V) (proposals : List V) (heard : ℕ → ℕ → List ℕ) (c : Clock) → c.beat < p.beats
    → table_at p proposals heard (advanced p.beats c) ≡ beaten p c.phase c.beat (heard c.phase c.beat) (table_at p proposals heard c)
table_next {V} p proposals heard c lt = go (advances p.beats c lt)
  where
    go : Advances p.beats c
        → table_at p proposals heard (advanced p.beats c) ≡ beaten p c.phase c.beat (heard c.phase c.beat) (table_at p proposals heard c)
    go (inl h) = ap (table_at p proposals heard) h.1
    go (inr h) =
        ap (table_at p proposals heard) h.1
        ∙ ap (λ (b : ℕ). within_phase p heard c.phase b (through p heard c.phase (opened proposals))) (sym h.0)

-- a beat that was taken, if it is the one that is sought; and else the rest
abbrev noted : Option (List ℕ) → Bool → List ℕ → List ℕ
noted None here rest = rest
noted (Some heard) here rest = cond here heard rest

module _ {V : Type 0} (p : Protocol V) (law : Lawful p) (proposals : List V) (calls : ℕ) (call : ℕ → Call V) (at : ℕ → Moment V) (worked : Worked p proposals calls call at) where
  pub step : (t : ℕ) → t < calls → Comes p (at t) (call t) (at (suc t))
  step t lt = comes p (at t) (call t) (at (suc t)) (worked.goes t lt)

  opens : (no_opening p.rule.boxes (length proposals) (length worked.found) ≡ None) × (((at 0).clock ≡ beginning) × ((at 0).table ≡ opened proposals))
  opens = does_ok _ _ _ (at 0).clock worked.opens

  pub begins : (at 0).clock ≡ beginning
  begins = opens.1.0

  pub fills : (at 0).table ≡ opened proposals
  fills = opens.1.1

  pub proposed : length proposals ≡ p.rule.boxes
  proposed =
      let n = p.rule.boxes in
      let e = either_none (other_length n 1 (length proposals)) _ opens.0 in
      eqb-true (length proposals) n (unless_none (eqb (length proposals) n) _ e.0)

  -- the clock shows a beat of its phase
  pub in_phase : (t : ℕ) → t ≤ calls → (at t).clock.beat < p.beats
  in_phase zero le = subst (λ (c : Clock). c.beat < p.beats) (sym begins) law.some_beats
  in_phase (suc t) le = go (step t le) (in_phase t (omega arith))
    where
      go : Comes p (at t) (call t) (at (suc t)) → (at t).clock.beat < p.beats → (at (suc t)).clock.beat < p.beats
      go (inr h) lt = subst (λ (m : Moment V). m.clock.beat < p.beats) (sym h.1) lt
      go (inl h) lt = subst (λ (c : Clock). c.beat < p.beats) (sym h.2.clock) (pick (advances p.beats (at t).clock lt))
        where
          pick : Advances p.beats (at t).clock
              → (advanced p.beats (at t).clock).beat < p.beats
          pick (inl a) = subst (λ (c : Clock). c.beat < p.beats) (sym a.1) (omega (arith, a.0))
          pick (inr a) = subst (λ (c : Clock). c.beat < p.beats) (sym a.1) law.some_beats

  -- no phase is finished after the last
  pub few_phases : (t : ℕ) → t ≤ calls → (at t).clock.phase ≤ last + 1
  few_phases zero le = subst (λ (c : Clock). c.phase ≤ last + 1) (sym begins) (omega arith)
  few_phases (suc t) le = go (step t le) (few_phases t (omega arith))
    where
      go : Comes p (at t) (call t) (at (suc t)) → (at t).clock.phase ≤ last + 1 → (at (suc t)).clock.phase ≤ last + 1
      go (inr h) few = subst (λ (m : Moment V). m.clock.phase ≤ last + 1) (sym h.1) few
      go (inl h) few = subst (λ (c : Clock). c.phase ≤ last + 1) (sym h.2.clock) (pick (advances p.beats (at t).clock (in_phase t (omega arith))))
        where
          pick : Advances p.beats (at t).clock
              → (advanced p.beats (at t).clock).phase ≤ last + 1
          pick (inl a) = subst (λ (c : Clock). c.phase ≤ last + 1) (sym a.1) few
          pick (inr a) = subst (λ (c : Clock). c.phase ≤ last + 1) (sym a.1) (omega (arith, h.2.due))

  place_next : (t : ℕ) (heard : List ℕ) → t < calls → Taken p (at t) heard (at (suc t)) → position p.beats (at (suc t)).clock ≡ suc (position p.beats (at t).clock)
  place_next t heard lt h = ap (position p.beats) h.clock ∙ position_next p.beats (at t).clock (in_phase t (omega arith))

  -- a call leaves the position, or moves it on by one
  place_grows : (t : ℕ) → t < calls → position p.beats (at t).clock ≤ position p.beats (at (suc t)).clock
  place_grows t lt = go (step t lt)
    where
      go : Comes p (at t) (call t) (at (suc t)) → position p.beats (at t).clock ≤ position p.beats (at (suc t)).clock
      go (inl h) = omega (arith, place_next t h.0 lt h.2)
      go (inr h) = omega (arith, ap (λ (m : Moment V). position p.beats m.clock) h.1)

  -- after a taken beat its position is past
  past : (s n : ℕ) (heard : List ℕ) → s < n → n ≤ calls → taken (call s) ≡ Some heard → position p.beats (at s).clock < position p.beats (at n).clock
  past s zero heard lt le e = absurd (omega arith)
  past s (suc n) heard lt le e = go (cases_lt s n) (λ l. past s n heard l (omega arith) e)
    where
      here : s ≡ n → Comes p (at s) (call s) (at (suc s)) → position p.beats (at s).clock < position p.beats (at (suc n)).clock
      here same (inl h) = subst (λ (x : ℕ). position p.beats (at s).clock < position p.beats (at (suc x)).clock) same (omega (arith, place_next s h.0 (omega arith) h.2))
      here same (inr h) = absurd (some_none (sym e ∙ h.0))

      go : (s < n) ⊎ (n ≤ s) → (s < n → position p.beats (at s).clock < position p.beats (at n).clock) → position p.beats (at s).clock < position p.beats (at (suc n)).clock
      go (inl l) ih = omega (arith, ih l, place_grows n (omega arith))
      go (inr g) ih = here (omega arith) (step s (omega arith))

  -- the heard sets of the beats taken before moment n, by phase and beat
  abbrev pub logged : ℕ → ℕ → ℕ → List ℕ
  logged zero k b = []
  logged (suc s) k b = noted (taken (call s)) (eqb (at s).clock.phase k && eqb (at s).clock.beat b) (logged s k b)

  -- each taken beat is logged, and no later one in its place
  pub logs : (s n : ℕ) (heard : List ℕ) → s < n → n ≤ calls → taken (call s) ≡ Some heard → logged n (at s).clock.phase (at s).clock.beat ≡ heard
  logs s zero heard lt le e = absurd (omega arith)
  logs s (suc n) heard lt le e = go (cases_lt s n) (λ l. logs s n heard l (omega arith) e)
    where
      k : ℕ
      k = (at s).clock.phase

      b : ℕ
      b = (at s).clock.beat

      here : s ≡ n → logged (suc n) k b ≡ heard
      here same =
          ap (λ (x : ℕ). noted (taken (call x)) (eqb (at x).clock.phase k && eqb (at x).clock.beat b) (logged x k b)) (sym same)
          ∙ ap (λ (o : Option (List ℕ)). noted o (eqb k k && eqb b b) (logged s k b)) e
          ∙ cond-true _ _ _ (and_from (eqb k k) (eqb b b) (eq-eqb k k refl) (eq-eqb b b refl))

      other : (o : Option (List ℕ)) → taken (call n) ≡ o → s < n → noted o (eqb (at n).clock.phase k && eqb (at n).clock.beat b) (logged n k b) ≡ logged n k b
      other None q l = refl
      other (Some x) q l = pick (cases_Bool (eqb (at n).clock.phase k && eqb (at n).clock.beat b))
        where
          pick : ((eqb (at n).clock.phase k && eqb (at n).clock.beat b) ≡ true) ⊎ ((eqb (at n).clock.phase k && eqb (at n).clock.beat b) ≡ false)
              → cond (eqb (at n).clock.phase k && eqb (at n).clock.beat b) x (logged n k b) ≡ logged n k b
          pick (inr f) = cond-false _ _ _ f
          pick (inl f) =
              let parts = and_parts (eqb (at n).clock.phase k) (eqb (at n).clock.beat b) f in
              let same = ap (λ (j : ℕ). j * p.beats) (eqb-true (at n).clock.phase k parts.0) in
              absurd (omega (arith, past s n heard l (omega arith) e, eqb-true (at n).clock.beat b parts.1))

      go : (s < n) ⊎ (n ≤ s) → (s < n → logged n k b ≡ heard) → logged (suc n) k b ≡ heard
      go (inl l) ih = other (taken (call n)) refl l ∙ ih l
      go (inr g) ih = here (omega arith)

  -- the heard sets of the whole run
  abbrev pub course : ℕ → ℕ → List ℕ
  course = logged calls

  -- at every moment the table is that of the course
  pub table_is : (t : ℕ) → t ≤ calls → (at t).table ≡ table_at p proposals course (at t).clock
  table_is zero le = fills ∙ ap (table_at p proposals course) (sym begins)
  table_is (suc t) le = go (step t le) (table_is t (omega arith))
    where
      go : Comes p (at t) (call t) (at (suc t)) → (at t).table ≡ table_at p proposals course (at t).clock → (at (suc t)).table ≡ table_at p proposals course (at (suc t)).clock
      go (inr h) ih = ap (λ (m : Moment V). m.table) h.1 ∙ ih ∙ ap (λ (m : Moment V). table_at p proposals course m.clock) (sym h.1)
      go (inl h) ih =
          h.2.table
          ∙ ap (λ (l : List (Slip V)). beaten p (at t).clock.phase (at t).clock.beat h.0 l) ih
          ∙ ap (λ (l : List ℕ). beaten p (at t).clock.phase (at t).clock.beat l (table_at p proposals course (at t).clock)) (sym (logs t calls h.0 le (omega arith) h.1))
          ∙ sym (table_next p proposals course (at t).clock (in_phase t (omega arith)))
          ∙ ap (table_at p proposals course) (sym h.2.clock)

  -- each beat before the one that is due was taken
  pub record Beat (t k b : ℕ) : Type 0 where
    pub when : ℕ
    pub before : when < t
    pub phase : (at when).clock.phase ≡ k
    pub beat : (at when).clock.beat ≡ b
    pub heard : List ℕ
    pub took : taken (call when) ≡ Some heard
    pub admitted : AllAdmitted p k b heard

  pub each_taken : (t k b : ℕ) → t ≤ calls → b < p.beats → position p.beats (clock_of k b) < position p.beats (at t).clock → Beat t k b
  each_taken zero k b le lb lt = absurd (omega (arith, ap (position p.beats) begins))
  each_taken (suc t) k b le lb lt = go (step t le) (each_taken t k b (omega arith) lb)
    where
      later : Beat t k b → Beat (suc t) k b
      later r = record { when = r.when; before = omega (arith, r.before); phase = r.phase; beat = r.beat; heard = r.heard; took = r.took; admitted = r.admitted }

      here : (heard : List ℕ) → taken (call t) ≡ Some heard → Taken p (at t) heard (at (suc t)) → position p.beats (clock_of k b) ≡ position p.beats (at t).clock → Beat (suc t) k b
      here heard e h same =
          let one = position_one p.beats k b (at t).clock.phase (at t).clock.beat lb (in_phase t (omega arith)) same in
          record {
            when = t;
            before = omega arith;
            phase = sym one.0;
            beat = sym one.1;
            heard = heard;
            took = e;
            admitted = subst (λ (j : ℕ). AllAdmitted p j b heard) (sym one.0) (subst (λ (d : ℕ). AllAdmitted p (at t).clock.phase d heard) (sym one.1) h.admitted);
          }

      go : Comes p (at t) (call t) (at (suc t)) → (position p.beats (clock_of k b) < position p.beats (at t).clock → Beat t k b) → Beat (suc t) k b
      go (inr h) ih = later (ih (omega (arith, lt, ap (λ (m : Moment V). position p.beats m.clock) h.1)))
      go (inl h) ih = pick (cases_lt (position p.beats (clock_of k b)) (position p.beats (at t).clock))
        where
          pick : (position p.beats (clock_of k b) < position p.beats (at t).clock) ⊎ (position p.beats (at t).clock ≤ position p.beats (clock_of k b)) → Beat (suc t) k b
          pick (inl l) = later (ih l)
          pick (inr g) = here h.0 h.1 h.2 (omega (arith, lt, place_next t h.0 le h.2))

  -- what was heard in a beat of a finished phase
  pub finished : (t k b : ℕ) → t ≤ calls → k < (at t).clock.phase → b < p.beats → Beat t k b
  finished t k b le lt lb = each_taken t k b le lb (position_less p.beats k (at t).clock.phase b (at t).clock.beat lt lb)

  pub heard_is : (t k b : ℕ) → t ≤ calls → (r : Beat t k b) → course k b ≡ r.heard
  heard_is t k b le r =
      ap (λ (j : ℕ). course j b) (sym r.phase) ∙ ap (course (at r.when).clock.phase) (sym r.beat) ∙ logs r.when calls r.heard (omega (arith, r.before)) (omega arith) r.took

  -- the finished phases are a course of the procedure
  pub runs : (t : ℕ) → t ≤ calls → Course p proposals course (at t).clock.phase
  runs t le = record {
    proposed = proposed;
    few = few_phases t le;
    admitted = λ k b lt lb. let r = finished t k b le lt lb in subst (AllAdmitted p k b) (sym (heard_is t k b le r)) r.admitted;
  }
