-- What the boxes of a run hold. Assumes nothing.
use Rattle.std.proofs.Common.{◌≡◌, ℕ, zero, suc, ◌<◌, ◌≤◌, ◌⊎◌, List, [], ◌∷◌, map, length, get_or, Some, None, Option, sym, refl, ap, ◌∙◌, subst, inl, inr, arith}
use Rattle.std.proofs.lemmas.Bool.{cases_lt}
use Rattle.std.specs.Option.{option_or}
use Rattle.quorum.proofs.Somes.{some_is, some_none}
use Rattle.setup.specs.Rows.{entry}
use Rattle.book.specs.Voting.{Guards}
use Rattle.agreement.specs.declared.clocks.Clock.{Clock}
use Rattle.agreement.specs.declared.slips.Slip.{Slip}
use Rattle.agreement.specs.Laws.{Due, Lawful, OneClear, Read, ended}
use Rattle.agreement.specs.Promise.{Agreement, Call, ClearPhase, Holds, Moment, Settling, Validity, Worked}
use Rattle.agreement.specs.Protocols.{Protocol}
use Rattle.agreement.specs.Slips.{Stands, casts, held, news, opened, opening, setups_of_slip, slip_at}
use Rattle.agreement.proofs.Deciding.{one_decision}
use Rattle.agreement.proofs.Entries.{at_held, beaten_from, beaten_item, beaten_length, field_at, field_from, item_inside, opened_from}
use Rattle.agreement.proofs.Moments.{Advances, advances, clock_of, course, finished, heard_is, in_phase, runs, step, table_at, table_is, fills, begins}
use Rattle.agreement.proofs.Taking.{Comes, Taken}

-- what is held comes from the news, or was held before
or_from : {V : Type 0} (new old : Option V) (v : V) → option_or new old ≡ Some v → (new ≡ Some v) ⊎ ((new ≡ None) × (old ≡ Some v))
or_from None old v e = inr (refl, e)
or_from (Some w) old v e = inl e

-- the slip of an opening has no setup but the proposal
opening_has : {V : Type 0} (v w : V) → Stands w (setups_of_slip (opening v)) → w ≡ v
opening_has v w (zero, e) = some_is (sym e)
opening_has v w (suc zero, e) = absurd (some_none (sym e))
opening_has v w (suc (suc zero), e) = absurd (some_none (sym e))
opening_has v w (suc (suc (suc zero)), e) = absurd (some_none (sym e))
opening_has v w (suc (suc (suc (suc zero))), e) = absurd (some_none (sym e))
opening_has v w (suc (suc (suc (suc (suc zero)))), e) = absurd (some_none (sym e))
opening_has v w (suc (suc (suc (suc (suc (suc zero))))), e) = absurd (some_none (sym e))
opening_has v w (suc (suc (suc (suc (suc (suc (suc i)))))), e) = absurd (some_none (sym e))

module _ {V : Type 0} (p : Protocol V) (law : Lawful p) (proposals : List V) (calls : ℕ) (call : ℕ → Call V) (at : ℕ → Moment V) (worked : Worked p proposals calls call at) where
  -- the votes and decisions of phase k
  abbrev pub votes : ℕ → List (Option V)
  votes k = casts (ended p proposals (course p law proposals calls call at worked) k)

  abbrev pub decisions : ℕ → List (Option V)
  decisions k = news (ended p proposals (course p law proposals calls call at worked) k)

  -- a finished phase meets both guards
  pub guarded : (t k : ℕ) → t ≤ calls → k < (at t).clock.phase → Guards p.rule votes k (votes k) (decisions k)
  guarded t k le lt =
      let c = runs p law proposals calls call at worked t le in
      law.votes proposals (course p law proposals calls call at worked) k (record {
        proposed = c.proposed;
        few = omega (arith, c.few);
        admitted = λ j b l lb. c.admitted j b (omega arith) lb;
      })

  -- the table has a slip for each box
  pub size : (t : ℕ) → t ≤ calls → length (at t).table ≡ p.rule.boxes
  size zero le = ap length (fills p law proposals calls call at worked) ∙ size_opened proposals ∙ (runs p law proposals calls call at worked 0 le).proposed
    where
      size_opened : (vs : List V) → length (opened vs) ≡ length vs
      size_opened [] = refl
      size_opened (v ∷ vs) = ap suc (size_opened vs)
  size (suc t) le = go (step p law proposals calls call at worked t le) (size t (omega arith))
    where
      go : Comes p (at t) (call t) (at (suc t)) → length (at t).table ≡ p.rule.boxes → length (at (suc t)).table ≡ p.rule.boxes
      go (inr h) ih = ap (λ (m : Moment V). length m.table) h.1 ∙ ih
      go (inl h) ih = ap length h.2.table ∙ beaten_length p (at t).clock.phase (at t).clock.beat h.0 (at t).table ∙ ih

  -- a new slip of a taken beat is due
  due : (t i : ℕ) (heard : List ℕ) → t < calls → Taken p (at t) heard (at (suc t)) → i < p.rule.boxes → Due p (at t).clock.phase (at t).clock.beat i (get_or heard i 0)
  due t i heard lt h li = record {
    phase = h.due;
    beat = in_phase p law proposals calls call at worked t (omega arith);
    box = li;
    heard = h.admitted.each i li;
  }

  -- the slip of box i before and after a taken beat
  record Renewed (t : ℕ) (heard : List ℕ) (i : ℕ) (new : Slip V) : Type 0 where
    old : Slip V
    stood : slip_at (at t).table i ≡ Some old
    made : new ≡ p.next (at t).clock.phase (at t).clock.beat i old (get_or heard i 0) (at t).table
    is_due : Due p (at t).clock.phase (at t).clock.beat i (get_or heard i 0)

  renewed : (t i : ℕ) (heard : List ℕ) (new : Slip V) → t < calls → Taken p (at t) heard (at (suc t)) → slip_at (at (suc t)).table i ≡ Some new → Renewed t heard i new
  renewed t i heard new lt h e =
      let r = beaten_from p (at t).clock.phase (at t).clock.beat heard (at t).table i new (ap (λ (l : List (Slip V)). slip_at l i) (sym h.table) ∙ e) in
      record {
        old = r.0;
        stood = r.1;
        made = r.2;
        is_due = due t i heard lt h (subst (λ (n : ℕ). i < n) (size t (omega arith)) (item_inside (at t).table i r.0 r.1));
      }

  -- held after a taken beat: what is new, or what was held
  renewed_held : (t i : ℕ) (heard : List ℕ) (new : Slip V) (v : V) (r : Renewed t heard i new) → new.held ≡ Some v → (new.news ≡ Some v) ⊎ ((new.news ≡ None) × (r.old.held ≡ Some v))
  renewed_held t i heard new v r e =
      or_from new.news r.old.held v
      (sym (ap (λ (s : Slip V). s.held) r.made ∙ law.follows _ _ i _ r.old (at t).table r.is_due ∙ ap (λ (s : Slip V). option_or s.news r.old.held) (sym r.made)) ∙ e)

  -- a taken beat with news finishes its phase
  finishes : (t i : ℕ) (heard : List ℕ) (new : Slip V) (v : V) → t < calls → (h : Taken p (at t) heard (at (suc t))) → Renewed t heard i new → new.news ≡ Some v → (at (suc t)).clock ≡ clock_of (suc (at t).clock.phase) 0
  finishes t i heard new v lt h r e = go (advances p.beats (at t).clock (in_phase p law proposals calls call at worked t (omega arith)))
    where
      go : Advances p.beats (at t).clock
          → (at (suc t)).clock ≡ clock_of (suc (at t).clock.phase) 0
      go (inr a) = h.clock ∙ a.1
      go (inl a) = absurd (some_none (sym e ∙ ap (λ (s : Slip V). s.news) r.made ∙ law.quiet_news _ _ i _ r.old (at t).table r.is_due a.0))

  -- what is held was decided in a finished phase
  record Decided (t : ℕ) (v : V) : Type 0 where
    phase : ℕ
    box : ℕ
    done : phase < (at t).clock.phase
    is : entry (decisions phase) box ≡ Some v

  phase_grows : (t : ℕ) → t < calls → (at t).clock.phase ≤ (at (suc t)).clock.phase
  phase_grows t lt = go (step p law proposals calls call at worked t lt)
    where
      go : Comes p (at t) (call t) (at (suc t)) → (at t).clock.phase ≤ (at (suc t)).clock.phase
      go (inr h) = omega (arith, ap (λ (m : Moment V). m.clock.phase) h.1)
      go (inl h) = pick (advances p.beats (at t).clock (in_phase p law proposals calls call at worked t (omega arith)))
        where
          pick : Advances p.beats (at t).clock
              → (at t).clock.phase ≤ (at (suc t)).clock.phase
          pick (inl a) = omega (arith, ap (λ (c : Clock). c.phase) (h.2.clock ∙ a.1))
          pick (inr a) = omega (arith, ap (λ (c : Clock). c.phase) (h.2.clock ∙ a.1))

  still : (t : ℕ) (v : V) → t < calls → Decided t v → Decided (suc t) v
  still t v lt d = record { phase = d.phase; box = d.box; done = omega (arith, d.done, phase_grows t lt); is = d.is }

  decided : (t i : ℕ) (v : V) → t ≤ calls → Holds (at t) i v → Decided t v
  decided zero i v le e =
      let f = field_from (λ s. s.held) (at 0).table i v e in
      let o = opened_from proposals i f.0 (ap (λ (l : List (Slip V)). slip_at l i) (sym (fills p law proposals calls call at worked)) ∙ f.1) in
      absurd (some_none (sym f.2 ∙ ap (λ (s : Slip V). s.held) o.2))
  decided (suc t) i v le e = go (step p law proposals calls call at worked t le) (decided t i v (omega arith))
    where
      go : Comes p (at t) (call t) (at (suc t)) → (Holds (at t) i v → Decided t v) → Decided (suc t) v
      go (inr h) ih = still t v le (ih (subst (λ (m : Moment V). Holds m i v) h.1 e))
      go (inl h) ih = pick (renewed_held t i h.0 f.0 v r f.2)
        where
          f : (s : Slip V) × (slip_at (at (suc t)).table i ≡ Some s) × (s.held ≡ Some v)
          f = field_from (λ s. s.held) (at (suc t)).table i v e

          r : Renewed t h.0 i f.0
          r = renewed t i h.0 f.0 le h.2 f.1

          pick : (f.0.news ≡ Some v) ⊎ ((f.0.news ≡ None) × (r.old.held ≡ Some v)) → Decided (suc t) v
          pick (inr o) = still t v le (ih (field_at (λ s. s.held) (at t).table i r.old r.stood ∙ o.1))
          pick (inl n) =
              let end = finishes t i h.0 f.0 v le h.2 r n in
              record {
                phase = (at t).clock.phase;
                box = i;
                done = omega (arith, ap (λ (c : Clock). c.phase) end);
                is =
                    ap (λ (l : List (Slip V)). entry (news l) i) (sym (table_is p law proposals calls call at worked (suc t) le ∙ ap (table_at p proposals (course p law proposals calls call at worked)) end))
                    ∙ field_at (λ s. s.news) (at (suc t)).table i f.0 f.1 ∙ n;
              }

  -- ---- agreement

  phases_grow : (s t : ℕ) → s ≤ t → t ≤ calls → (at s).clock.phase ≤ (at t).clock.phase
  phases_grow s zero le lt = let same : s ≡ 0 = omega arith in omega (arith, ap (λ (x : ℕ). (at x).clock.phase) same)
  phases_grow s (suc t) le lt = go (cases_lt s (suc t)) (λ l. phases_grow s t l (omega arith))
    where
      go : (s < suc t) ⊎ (suc t ≤ s) → (s ≤ t → (at s).clock.phase ≤ (at t).clock.phase) → (at s).clock.phase ≤ (at (suc t)).clock.phase
      go (inl l) ih = omega (arith, ih (omega arith), phase_grows t lt)
      go (inr g) ih = let same : s ≡ suc t = omega arith in omega (arith, ap (λ (x : ℕ). (at x).clock.phase) same)

  one : (s t i j : ℕ) (v w : V) → s ≤ calls → t ≤ calls → Holds (at s) i v → Holds (at t) j w → v ≡ w
  one s t i j v w ls lt hs ht =
      let a = decided s i v ls hs in
      let b = decided t j w lt ht in
      one_decision p.rule law.ruled votes decisions (at calls).clock.phase (λ k l. guarded calls k (omega arith) l) a.phase b.phase a.box b.box v w
      (omega (arith, a.done, phases_grow s calls ls (omega arith))) (omega (arith, b.done, phases_grow t calls lt (omega arith))) a.is b.is

  -- a box that holds a setup still holds one after a call
  keeps : (t i : ℕ) (v : V) → t < calls → Holds (at t) i v → (w : V) × Holds (at (suc t)) i w
  keeps t i v lt e = go (step p law proposals calls call at worked t lt)
    where
      go : Comes p (at t) (call t) (at (suc t)) → (w : V) × Holds (at (suc t)) i w
      go (inr h) = (v, subst (λ (m : Moment V). Holds m i v) (sym h.1) e)
      go (inl h) = pick new.news refl
        where
          f : (s : Slip V) × (slip_at (at t).table i ≡ Some s) × (s.held ≡ Some v)
          f = field_from (λ s. s.held) (at t).table i v e

          d : Due p (at t).clock.phase (at t).clock.beat i (get_or h.0 i 0)
          d = due t i h.0 lt h.2 (subst (λ (n : ℕ). i < n) (size t (omega arith)) (item_inside (at t).table i f.0 f.1))

          new : Slip V
          new = p.next (at t).clock.phase (at t).clock.beat i f.0 (get_or h.0 i 0) (at t).table

          there : entry (held (at (suc t)).table) i ≡ new.held
          there =
              field_at (λ s. s.held) (at (suc t)).table i new
              (ap (λ (l : List (Slip V)). slip_at l i) h.2.table ∙ beaten_item p (at t).clock.phase (at t).clock.beat h.0 (at t).table i f.0 f.1)

          pick : (n : Option V) → new.news ≡ n → (w : V) × Holds (at (suc t)) i w
          pick None q = (v, there ∙ law.follows _ _ i _ f.0 (at t).table d ∙ ap (λ (o : Option V). option_or o f.0.held) q ∙ f.2)
          pick (Some w) q = (w, there ∙ law.follows _ _ i _ f.0 (at t).table d ∙ ap (λ (o : Option V). option_or o f.0.held) q)

  stays : (s t i : ℕ) (v : V) → s ≤ t → t ≤ calls → Holds (at s) i v → Holds (at t) i v
  stays s zero i v le lt e = let same : s ≡ 0 = omega arith in subst (λ (x : ℕ). Holds (at x) i v) same e
  stays s (suc t) i v le lt e = go (cases_lt s (suc t)) (λ l. stays s t i v l (omega arith) e)
    where
      go : (s < suc t) ⊎ (suc t ≤ s) → (s ≤ t → Holds (at t) i v) → Holds (at (suc t)) i v
      go (inr g) ih = let same : s ≡ suc t = omega arith in subst (λ (x : ℕ). Holds (at x) i v) same e
      go (inl l) ih =
          let now = ih (omega arith) in
          let k = keeps t i v lt now in
          subst (λ (w : V). Holds (at (suc t)) i w) (sym (one t (suc t) i i v k.0 (omega arith) lt now k.1)) k.1

  pub agreement : Agreement calls at
  agreement = record { one = one; stays = stays }

  -- ---- validity

  -- every setup in every slip was proposed
  sourced : (t i : ℕ) (s : Slip V) (v : V) → t ≤ calls → slip_at (at t).table i ≡ Some s → Stands v (setups_of_slip s) → Stands v (map Some proposals)
  sourced zero i s v le e h =
      let o = opened_from proposals i s (ap (λ (l : List (Slip V)). slip_at l i) (sym (fills p law proposals calls call at worked)) ∙ e) in
      let same = opening_has o.0 v (subst (λ (x : Slip V). Stands v (setups_of_slip x)) o.2 h) in
      (i, o.1 ∙ ap {B = Option V} Some (sym same))
  sourced (suc t) i s v le e h = go (step p law proposals calls call at worked t le) (λ j x. sourced t j x v (omega arith))
    where
      go : Comes p (at t) (call t) (at (suc t)) → ((j : ℕ) (x : Slip V) → slip_at (at t).table j ≡ Some x → Stands v (setups_of_slip x) → Stands v (map Some proposals)) → Stands v (map Some proposals)
      go (inr c) ih = ih i s (ap (λ (m : Moment V). slip_at m.table i) (sym c.1) ∙ e) h
      go (inl c) ih =
          let r = renewed t i c.0 s le c.2 e in
          pick r.old r.stood
          (law.origin _ _ i _ r.old (at t).table v r.is_due (subst (λ (x : Slip V). Stands v (setups_of_slip x)) r.made h))
        where
          pick : (old : Slip V) → slip_at (at t).table i ≡ Some old → Read old (get_or c.0 i 0) (at t).table v → Stands v (map Some proposals)
          pick old stood (inl own) = ih i old stood own
          pick old stood (inr other) = ih other.0 other.1 other.3 other.4

  pub validity : Validity proposals calls at
  validity t i v le e =
      let f = field_from (λ s. s.held) (at t).table i v e in
      sourced t i f.0 v le f.1 (at_held, f.2)

  -- ---- settling

  -- the moment when a phase becomes due
  reached : (t k : ℕ) → t ≤ calls → k ≤ (at t).clock.phase → (s : ℕ) × (s ≤ t) × ((at s).clock ≡ clock_of k 0)
  reached zero k le lt =
      let none : k ≡ 0 = omega (arith, ap (λ (c : Clock). c.phase) (begins p law proposals calls call at worked)) in
      (0, omega arith, begins p law proposals calls call at worked ∙ ap (λ (j : ℕ). clock_of j 0) (sym none))
  reached (suc t) k le lt = go (cases_lt (at t).clock.phase k) (step p law proposals calls call at worked t le) (reached t k (omega arith))
    where
      earlier : (s : ℕ) × (s ≤ t) × ((at s).clock ≡ clock_of k 0) → (s : ℕ) × (s ≤ suc t) × ((at s).clock ≡ clock_of k 0)
      earlier r = (r.0, omega (arith, r.1), r.2)

      go : ((at t).clock.phase < k) ⊎ (k ≤ (at t).clock.phase) → Comes p (at t) (call t) (at (suc t)) → (k ≤ (at t).clock.phase → (s : ℕ) × (s ≤ t) × ((at s).clock ≡ clock_of k 0))
          → (s : ℕ) × (s ≤ suc t) × ((at s).clock ≡ clock_of k 0)
      go (inr g) c ih = earlier (ih g)
      go (inl l) (inr h) ih = absurd (omega (arith, l, ap (λ (m : Moment V). m.clock.phase) h.1))
      go (inl l) (inl h) ih = pick (advances p.beats (at t).clock (in_phase p law proposals calls call at worked t (omega arith)))
        where
          pick : Advances p.beats (at t).clock
              → (s : ℕ) × (s ≤ suc t) × ((at s).clock ≡ clock_of k 0)
          pick (inl a) = absurd (omega (arith, l, ap (λ (c : Clock). c.phase) (h.2.clock ∙ a.1)))
          pick (inr a) =
              let same : suc (at t).clock.phase ≡ k = omega (arith, l, ap (λ (c : Clock). c.phase) (h.2.clock ∙ a.1)) in
              (suc t, omega arith, h.2.clock ∙ a.1 ∙ ap (λ (j : ℕ). clock_of j 0) same)

  -- what the boxes heard in a finished phase
  clear_phase : (t k : ℕ) → t ≤ calls → k < (at t).clock.phase → ClearPhase p call at t k → (b : ℕ) → b < p.beats → OneClear p k b (course p law proposals calls call at worked k b)
  clear_phase t k le lt clear b lb =
      let r = finished p law proposals calls call at worked t k b le lt lb in
      subst (OneClear p k b) (sym (heard_is p law proposals calls call at worked t k b le r))
      (subst (λ (d : ℕ). OneClear p k d r.heard) r.beat (clear r.when r.heard r.before r.phase r.took))

  pub settling : Settling p calls call at
  settling t k le lt first second i li =
      let r = reached t (suc (suc k)) le lt in
      let c = runs p law proposals calls call at worked t le in
      let course_of = course p law proposals calls call at worked in
      let all = law.settles proposals course_of k (record { proposed = c.proposed; few = omega (arith, c.few, lt); admitted = λ j b l lb. c.admitted j b (omega (arith, lt)) lb })
      (clear_phase t k le (omega (arith, lt)) first) (clear_phase t (suc k) le (omega (arith, lt)) second) i li in
      let then : Holds (at r.0) i all.0 =
      ap (λ (l : List (Slip V)). entry (held l) i) (table_is p law proposals calls call at worked r.0 (omega (arith, r.1)) ∙ ap (table_at p proposals course_of) r.2) ∙ all.1 in
      (all.0, stays r.0 t i all.0 r.1 le then)
