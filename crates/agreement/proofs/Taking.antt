-- What a call on a run comes to: a taken beat, or nothing. Assumes nothing.
use Rattle.std.proofs.Common.{◌≡◌, ℕ, ◌≤◌, not, eqb, ◌⊎◌, List, length, Some, None, Ok, Err, Option, refl, subst, inl, inr}
use Rattle.std.proofs.lemmas.Bool.{eqb-true, ltb-false, not-false, not-true}
use Rattle.std.specs.Option.{option_map}
use Rattle.quorum.specs.Boxes.{lowest}
use Rattle.quorum.specs.Refusals.{unless}
use Rattle.quorum.proofs.Lowest.{none_passes}
use Rattle.quorum.proofs.Refused.{does_err, does_ok, either_none, mapped_none, unless_none}
use Rattle.agreement.specs.declared.clocks.Clock.{Clock}
use Rattle.agreement.specs.declared.faults.RunFault.TheVariants as fault
use Rattle.agreement.specs.Calls.{Waiting, advanced, closed, estranged, no_beat, other_length, other_lengths}
use Rattle.agreement.specs.Laws.{AllAdmitted, last}
use Rattle.agreement.specs.Promise.{Call, Leaves, Moment, beat, read, taken}
use Rattle.agreement.specs.Protocols.{Protocol, beaten}

module _ {V : Type 0} (p : Protocol V) (c : Clock) where
  -- a beat without a reason to decline it: the run is not closed, and every box may go on with what it heard
  pub goes_on : (table sheet : ℕ) (heard : List ℕ) (w : Option ℕ) → Waiting p c.phase c.beat heard w → no_beat p c table sheet heard w ≡ None
      → (c.phase ≤ last) × AllAdmitted p c.phase c.beat heard
  goes_on table sheet heard w waiting e =
      let n = p.rule.boxes in
      let a = either_none (other_lengths n table sheet (length heard)) _ e in
      let b = either_none (unless (not (closed c)) fault.Closed) _ a.1 in
      let d = either_none (option_map fault.Stranger (lowest (estranged n heard) n)) _ b.1 in
      let lengths = either_none (other_length n 1 table) _ a.0 in
      let later = either_none (other_length n 2 sheet) _ lengths.1 in
      let inside = none_passes (estranged n heard) n (mapped_none fault.Stranger (lowest (estranged n heard) n) d.0) in
      let free = subst (Waiting p c.phase c.beat heard) (mapped_none fault.Wait w d.1) waiting in (
        ltb-false last c.phase (not-true (closed c) (unless_none (not (closed c)) fault.Closed b.0)),
        record {
          count = eqb-true (length heard) n (unless_none (eqb (length heard) n) (fault.Length 3) later.1);
          each = λ i lt. record { inside = not-false _ (inside i lt); admits = not-false _ (free i lt) };
        },
      )

-- a beat was taken at this moment, and left that one
pub record Taken {V : Type 0} (p : Protocol V) (m : Moment V) (heard : List ℕ) (n : Moment V) : Type 0 where
  pub due : m.clock.phase ≤ last
  pub admitted : AllAdmitted p m.clock.phase m.clock.beat heard
  pub clock : n.clock ≡ advanced p.beats m.clock
  pub table : n.table ≡ beaten p m.clock.phase m.clock.beat heard m.table

-- every other call leaves the moment as it was
abbrev pub Comes : {V : Type 0} → Protocol V → Moment V → Call V → Moment V → Type 0
Comes p m call n = ((heard : List ℕ) × (taken call ≡ Some heard) × Taken p m heard n) ⊎ ((taken call ≡ None) × (n ≡ m))

pub comes : {V : Type 0} (p : Protocol V) (m : Moment V) (call : Call V) (n : Moment V) → Leaves p m call n → Comes p m call n
comes p m (beat sheet heard (Ok u) after) n h =
    let d = does_ok _ _ _ u h.2 in
    let g = goes_on p m.clock (length m.table) (length sheet) heard h.0 h.1 d.0 in
    inl (heard, refl, record { due = g.0; admitted = g.1; clock = d.1.0; table = d.1.1 })
comes p m (beat sheet heard (Err f) after) n h =
    let k = does_err _ _ _ f h.2 in
    inr (refl, λ i. record { clock = k.0 i; table = k.1 i })
comes p m (read i answer) n h = inr (refl, h.1)
