-- What is shown as held agrees. Assumes nothing.
use Rattle.std.proofs.Common.{◌≡◌, ℕ, zero, suc, ◌+◌, ◌<◌, ◌≤◌, Bool, true, false, cond, List, [], ◌∷◌, length, get_or, Some, None, Ok, Err, Option, Result, refl, sym, ap, ◌∙◌, subst, nat_le, ◌==◌, arith}
use Rattle.quorum.proofs.Somes.{some_none}
use Rattle.quorum.specs.declared.refusals.Refusal.{Refusal}
use Rattle.setup.specs.Rows.{entry as entry_of}
use Rattle.agreement.specs.declared.slips.Slip.{Slip}
use Rattle.agreement.specs.Promise.{Holds, Moment}
use Rattle.agreement.specs.Protocols.{Protocol}
use Rattle.agreement.specs.Slips.{casts, held}
use Rattle.shift.specs.declared.faults.Cause.TheVariants.{Key, Long}
use Rattle.shift.specs.declared.faults.TextFault.{TextFault}
use Rattle.shift.specs.Entries.{after}
use Rattle.shift.specs.Faults.{at_line}
use Rattle.shift.specs.Lines.{longest}
use Rattle.office.specs.Agreed.{Agreed, Shows, held_rows, proposals, proposals_of}
use Rattle.office.specs.Answers.{after_head, answer, beats, beats_by, following, line_ends, outcome_by, refused, start, with_beat}
use Rattle.office.specs.Heads.{Begun, beat, head}
use Rattle.office.specs.Shown.{Shown, and_after}
use Rattle.office.specs.Shown.Shown.{fault, phase}
use Rattle.office.proofs.Asked.{Asked, head_asked}
use Rattle.office.proofs.Histories.{moved, moved_by}
use Rattle.office.proofs.Histories as history
use Rattle.office.proofs.Numbering.{head_numbered}

-- ---- rows of moments, one after another

-- each row is what the boxes hold at a moment, the first at this one or a later one, and each other at that of the one before or a later one
abbrev Rows : (ℕ → Moment ℕ) → ℕ → List (List (Option ℕ)) → Type 0
Rows at low [] = Unit {0}
Rows at low (row ∷ rows) = (u : ℕ) × (low ≤ u) × (row ≡ held (at u).table) × Rows at u rows

-- the moments may be counted from an earlier one, and so may the rows
counted_on : (at : ℕ → Moment ℕ) (low : ℕ) (rows : List (List (Option ℕ))) → Rows (λ t. at (suc t)) low rows → Rows at (suc low) rows
counted_on at low [] r = tt
counted_on at low (row ∷ rows) r = (suc r.0, omega (arith, r.1), r.2, counted_on at r.0 rows r.3)

earlier : (at : ℕ → Moment ℕ) (low high : ℕ) (rows : List (List (Option ℕ))) → low ≤ high → Rows at high rows → Rows at low rows
earlier at low high [] le r = tt
earlier at low high (row ∷ rows) le r = (r.0, omega (arith, le, r.1), r.2, r.3)

-- the moment of a row
row_moment : (at : ℕ → Moment ℕ) (low : ℕ) (rows : List (List (Option ℕ))) → Rows at low rows → (t : ℕ) → t < length rows → (u : ℕ) × (low ≤ u) × (get_or rows t [] ≡ held (at u).table)
row_moment at low [] r t lt = absurd (omega arith)
row_moment at low (row ∷ rows) r zero lt = (r.0, r.1, r.2)
row_moment at low (row ∷ rows) r (suc t) lt =
    let m = row_moment at r.0 rows r.3 t (omega arith) in
    (m.0, omega (arith, r.1, m.1), m.2)

-- and of a later one
row_moments : (at : ℕ → Moment ℕ) (low : ℕ) (rows : List (List (Option ℕ))) → Rows at low rows → (s t : ℕ) → s ≤ t → t < length rows
    → (u : ℕ) × (w : ℕ) × (u ≤ w) × (get_or rows s [] ≡ held (at u).table) × (get_or rows t [] ≡ held (at w).table)
row_moments at low [] r s t le lt = absurd (omega arith)
row_moments at low (row ∷ rows) r zero t le lt =
    let m = row_moment at r.0 (row ∷ rows) (r.0, omega arith, r.2, r.3) t lt in
    (r.0, m.0, m.1, r.2, m.2)
row_moments at low (row ∷ rows) r (suc s) zero le lt = absurd (omega arith)
row_moments at low (row ∷ rows) r (suc s) (suc t) le lt = row_moments at r.0 rows r.3 s t (omega arith) (omega arith)

-- a setup stands only in a row that there is
row_there : (rows : List (List (Option ℕ))) (s i v : ℕ) → entry_of (get_or rows s []) i ≡ Some v → s < length rows
row_there [] s i v e = absurd (some_none (sym e))
row_there (row ∷ rows) zero i v e = omega arith
row_there (row ∷ rows) (suc s) i v e = omega (arith, row_there rows s i v e)

-- ---- what is shown of beats

-- the heard sets of the lines, before the first line that is no beat
abbrev heard_then : Result (List ℕ) TextFault → List (List ℕ) → List (List ℕ)
heard_then (Ok heard) hs = heard ∷ hs
heard_then (Err f) hs = []

abbrev heards : ℕ → ℕ → List ℕ → List (List ℕ)
heards n zero t = []
heards n (suc k) t = heard_then (beat n t) (heards (n + 1) k (after t))

module _ (p : Protocol ℕ) where
  -- what a beat shows is held at the moment that follows
  ended_rows : (b : Bool) (k : ℕ) (m : Moment ℕ) (at : ℕ → Moment ℕ) (es : List Shown) → at 1 ≡ m → Rows at 1 (held_rows es)
      → Rows at 0 (held_rows (and_after (cond b (Some (phase k (casts m.table) (held m.table))) None) es))
  ended_rows true k m at es is r = (1, omega arith, ap (λ (x : Moment ℕ). held x.table) (sym is), r)
  ended_rows false k m at es is r = earlier at 0 1 (held_rows es) (omega arith) r

  shown_rows : (o : Option Refusal) (m : Moment ℕ) (heard : List ℕ) (at : ℕ → Moment ℕ) (es : List Shown) → at 1 ≡ moved_by o p m heard → Rows at 1 (held_rows es)
      → Rows at 0 (held_rows (and_after (outcome_by o p m heard).0 es))
  shown_rows None m heard at es is r = ended_rows ((following p m heard).clock.beat == 0) m.clock.phase (following p m heard) at es is r
  shown_rows (Some f) m heard at es is r = earlier at 0 1 (held_rows es) (omega arith) r

  -- what stands after the last line end shows nothing that is held
  rest_rows : (b : Bool) (f : TextFault) (at : ℕ → Moment ℕ) → Rows at 0 (held_rows (cond b [] (fault f ∷ [])))
  rest_rows true f at = tt
  rest_rows false f at = tt

  -- what the lines show is held at moments of the run that their beats are offered to
  beats_rows : (m : Moment ℕ) (n k : ℕ) (t : List ℕ) → Rows (history.after p m (heards n k t)) 0 (held_rows (beats_by p m n k t))
  beats_rows m n zero t = rest_rows (length t == 0) (at_line Key n) (history.after p m [])
  beats_rows m n (suc k) t = go (beat n t) (λ heard. beats_rows (moved p m heard) (n + 1) k (after t))
    where
      hs : List (List ℕ)
      hs = heards (n + 1) k (after t)

      then : Moment ℕ → List Shown
      then m' = beats_by p m' (n + 1) k (after t)

      go : (l : Result (List ℕ) TextFault) → ((heard : List ℕ) → Rows (history.after p (moved p m heard) hs) 0 (held_rows (then (moved p m heard))))
          → Rows (history.after p m (heard_then l hs)) 0 (held_rows (with_beat p m l then))
      go (Ok heard) ih =
          shown_rows (refused p m heard) m heard (history.after p m (heard ∷ hs)) (then (moved p m heard)) refl
          (counted_on (history.after p m (heard ∷ hs)) 0 (held_rows (then (moved p m heard))) (ih heard))
      go (Err f) ih = tt

-- ---- the answer

-- a row has an entry for each slip
held_length : (table : List (Slip ℕ)) → length (held table) ≡ length table
held_length [] = refl
held_length (s ∷ ss) = ap suc (held_length ss)

module _ (h : Begun) (asked : Asked h) where
  abbrev shows : List Shown
  shows = beats h.procedure (start h.proposals) h.line h.rest

  abbrev hs : List (List ℕ)
  hs = heards h.line (line_ends h.rest) h.rest

  abbrev at : ℕ → Moment ℕ
  at = history.after h.procedure (start h.proposals) hs

  rows : Rows at 0 (held_rows shows)
  rows = beats_rows h.procedure (start h.proposals) h.line (line_ends h.rest) h.rest

  -- what is shown as held is held at a moment of the run
  holds : (s i v : ℕ) → Shows shows s i v → (u : ℕ) × Holds (at u) i v
  holds s i v e =
      let m = row_moment at 0 (held_rows shows) rows s (row_there (held_rows shows) s i v e) in
      (m.0, subst (λ (row : List (Option ℕ)). entry_of row i ≡ Some v) m.2 e)

  beats_agree : Agreed h.proposals shows
  beats_agree = record {
    numbered = head_numbered h;
    whole = λ s lt.
        let m = row_moment at 0 (held_rows shows) rows s lt in
        ap length m.2 ∙ held_length (at m.0).table ∙ history.boxes h.procedure asked.lawful h.proposals asked.proposed hs m.0;
    one = λ s t i j v w a b.
        let x = holds s i v a in
        let y = holds t j w b in
        history.one h.procedure asked.lawful h.proposals asked.proposed hs x.0 y.0 i j v w x.1 y.1;
    stays = λ s t i v le lt a.
        let m = row_moments at 0 (held_rows shows) rows s t le lt in
        let before = subst (λ (row : List (Option ℕ)). entry_of row i ≡ Some v) m.3 a in
        let after = history.stays h.procedure asked.lawful h.proposals asked.proposed hs m.0 m.1 i v m.2 before in
        subst (λ (row : List (Option ℕ)). entry_of row i ≡ Some v) (sym m.4) after;
    proposed = λ s i v a. let x = holds s i v a in history.valid h.procedure asked.lawful h.proposals asked.proposed hs x.0 i v x.1;
  }

-- a fault shows no phase
fault_agrees : (f : TextFault) (proposals : List ℕ) → Agreed proposals (fault f ∷ [])
fault_agrees f proposals = record {
  numbered = λ s lt. absurd (omega arith);
  whole = λ s lt. absurd (omega arith);
  one = λ s t i j v w h. absurd (never s i v h);
  stays = λ s t i v le lt h. absurd (never s i v h);
  proposed = λ s i v h. absurd (never s i v h);
}
  where
    never : (s i v : ℕ) → Shows (fault f ∷ []) s i v → ⊥
    never s i v h = omega (arith, row_there [] s i v h)

head_agrees : (text : List ℕ) (r : Result Begun TextFault) → head 1 text ≡ r → Agreed (proposals_of r) (after_head r)
head_agrees text (Ok h) e = beats_agree h (head_asked 1 text h e)
head_agrees text (Err f) e = fault_agrees f []

by_length : (text : List ℕ) (short : Bool) → Agreed (proposals text) (after_head (cond short (head 1 text) (Err (at_line Long 1))))
by_length text true = head_agrees text (head 1 text) refl
by_length text false = fault_agrees (at_line Long 1) (proposals text)

pub agreed : (text : List ℕ) → Agreed (proposals text) (answer text)
agreed text = by_length text (nat_le (length text) longest)
