-- A beat that is offered to a run: what is shown of it does not depend on which box that must wait is named. Assumes nothing.
use Rattle.std.proofs.Common.{◌≡◌, ℕ, Bool, not, List, ◌++◌, length, take, Some, None, Ok, Err, Option, Result, refl, sym, ap, ◌∙◌, subst, true≢false}
use Rattle.std.proofs.Math.Seq.{take-append_seam}
use Rattle.std.specs.Option.{option_map}
use Rattle.quorum.specs.Boxes.{lowest, IsLowest}
use Rattle.quorum.specs.Refusals.{Does, either, unless}
use Rattle.quorum.proofs.Lowest.{lowest_is_lowest}
use Rattle.agreement.specs.declared.clocks.Clock.{Clock}
use Rattle.agreement.specs.declared.faults.RunFault.{RunFault}
use Rattle.agreement.specs.declared.faults.RunFault.TheVariants.{Closed, Stranger, Wait}
use Rattle.agreement.specs.declared.slips.Slip.{Slip}
use Rattle.agreement.specs.Calls.{Beats, Waiting, advanced, closed, estranged, no_beat, other_lengths, waits}
use Rattle.agreement.specs.Promise.{Moment}
use Rattle.agreement.specs.Protocols.{Protocol, beaten}
use Rattle.office.specs.Answers.{following, refusal_of, outcome, outcome_by, refused}
use Rattle.office.specs.Working.{declined_with}

-- the first items of a list, where so many stand before others
pub take_first : {A : Type 0} (n : ℕ) (xs ys : List A) → length xs ≡ n → take n (xs ++ ys) ≡ xs
take_first n xs ys e = ap (λ k. take k (xs ++ ys)) (sym e) ∙ take-append_seam xs ys

-- where two reasons are shown alike, so are the two after one check more
alike : (first a b : Option RunFault) → option_map refusal_of a ≡ option_map refusal_of b → option_map refusal_of (either first a) ≡ option_map refusal_of (either first b)
alike None a b e = e
alike (Some f) a b e = refl

module _ (p : Protocol ℕ) (m : Moment ℕ) (heard : List ℕ) where
  abbrev n : ℕ
  n = p.rule.boxes

  abbrev test : ℕ → Bool
  test = waits p m.clock.phase m.clock.beat heard

  -- any box that must wait is shown as the lowest one is
  one_waits : (a b : Option ℕ) → Waiting p m.clock.phase m.clock.beat heard a → IsLowest test n b → option_map refusal_of (option_map Wait a) ≡ option_map refusal_of (option_map Wait b)
  one_waits None None all is = refl
  one_waits (Some i) (Some j) here is = refl
  one_waits None (Some j) all is = absurd (true≢false (sym is.1 ∙ all j is.0))
  one_waits (Some i) None here is = absurd (true≢false (sym here.1 ∙ is i here.0))

  -- so the run's reason to decline is shown as the definition says
  reason : (waiting : Option ℕ) → Waiting p m.clock.phase m.clock.beat heard waiting → option_map refusal_of (no_beat p m.clock n n heard waiting) ≡ refused p m heard
  reason waiting w =
      let strangers = option_map Stranger (lowest (estranged n heard) n) in
      let open_run = unless (not (closed m.clock)) Closed in
      alike (other_lengths n n n (length heard)) (either open_run (either strangers (option_map Wait waiting))) (either open_run (either strangers (option_map Wait (lowest test n))))
      (alike open_run (either strangers (option_map Wait waiting)) (either strangers (option_map Wait (lowest test n)))
      (alike strangers (option_map Wait waiting) (option_map Wait (lowest test n)) (one_waits waiting (lowest test n) w (lowest_is_lowest test n))))

  -- a beat on a table and a sheet for the roster comes to what the definition says
  module _ (sheet : List (Slip ℕ)) (whole : length m.table ≡ n) (room : length sheet ≡ n) (c : Clock) (table copy : List (Slip ℕ)) where
    abbrev next : Moment ℕ
    next = record { clock = c; table = table }

    abbrev pub Comes : Result (Unit {0}) RunFault → Type 0
    Comes answer = (declined_with answer ≡ refused p m heard) × (next ≡ (outcome p m heard).1)

    abbrev Done : Type 0
    Done = (c ≡ advanced p.beats m.clock) × (table ≡ beaten p m.clock.phase m.clock.beat heard m.table) × (copy ≡ m.table)

    abbrev Kept : Type 0
    Kept = (c ≡ m.clock) × (table ≡ m.table) × (copy ≡ sheet)

    by : (waiting : Option ℕ) → Waiting p m.clock.phase m.clock.beat heard waiting → (r : Option RunFault) (answer : Result (Unit {0}) RunFault) → no_beat p m.clock n n heard waiting ≡ r
        → Does r (λ _. Done) Kept answer → Comes answer
    by waiting w None (Ok u) e d =
        let shown : None ≡ refused p m heard = ap (option_map refusal_of) (sym e) ∙ reason waiting w in
        let is : next ≡ following p m heard = rw (d.0, d.1) in
        (shown, is ∙ ap (λ r. (outcome_by r p m heard).1) shown)
    by waiting w (Some g) (Err f) e d =
        let shown : Some (refusal_of f) ≡ refused p m heard = ap (λ g. Some (refusal_of g)) d.0 ∙ ap (option_map refusal_of) (sym e) ∙ reason waiting w in
        let is : next ≡ m = rw (d.1.0, d.1.1) in
        (shown, is ∙ ap (λ r. (outcome_by r p m heard).1) shown)
    by waiting w None (Err f) e d = absurd d
    by waiting w (Some g) (Ok u) e d = absurd d

    pub comes : (answer : Result (Unit {0}) RunFault) → Beats p m.clock m.table sheet heard answer c table copy → Comes answer
    comes answer b =
        let same = ap (λ k. no_beat p m.clock k (length sheet) heard b.0) whole ∙ ap (λ k. no_beat p m.clock n k heard b.0) room in
        by b.0 b.1 (no_beat p m.clock n n heard b.0) answer refl (subst (λ r. Does r (λ _. Done) Kept answer) same b.2)
