-- The lines of beats, one after another. Assumes nothing.
use Rattle.std.proofs.Common.{◌≡◌, ℕ, suc, ◌+◌, Bool, true, false, cond, nat_le, List, [], ◌∷◌, length, take, drop, Some, None, Ok, Err, codes, Option, Result, ltb, eqb, refl, sym, ap, ◌∙◌, arith}
use Rattle.std.proofs.lemmas.Bool.{ltb-false, ltb-true}
use Rattle.std.proofs.lemmas.List.Splits.{length-slice_split, slice_split_first, slice_split_none}
use Rattle.std.proofs.lemmas.List.Sums.{fails_before_first}
use Rattle.std.specs.List.{position_or_len, slice_split}
use Rattle.std.specs.Option.{option_map}
use Rattle.agreement.specs.Promise.{Moment}
use Rattle.agreement.specs.Protocols.{Protocol}
use Rattle.shift.specs.declared.classes.Class.TheVariants.{LineEnd}
use Rattle.shift.specs.declared.faults.Cause.TheVariants.{Key, Long}
use Rattle.shift.specs.declared.faults.TextFault.{TextFault}
use Rattle.shift.specs.Classes.{is}
use Rattle.shift.specs.Entries.{after, of_line, rest_of}
use Rattle.shift.specs.Faults.{at_line}
use Rattle.shift.specs.Lines.{longest, unless_long, with_key}
use Rattle.shift.specs.Lists.{numbers}
use Rattle.shift.specs.Parts.{parted}
use Rattle.shift.proofs.Places.{same_pair}
use Rattle.office.specs.Answers.{beats, beats_by, line_ends, outcome, with_beat}
use Rattle.office.specs.Heads.{beat, said}
use Rattle.office.specs.Shown.{Shown, and_after}
use Rattle.office.specs.Shown.Shown.{fault}

-- ---- the line ends of a text

-- its pieces between line ends
abbrev pieces : List ℕ → List (List ℕ)
pieces t = slice_split (is LineEnd) t

module _ (t : List ℕ) where
  abbrev first : ℕ
  first = position_or_len (is LineEnd) t

  -- a text that has a line end is its first line, and the pieces of what comes after
  first_by : (b : Bool) (p : List ℕ × List ℕ) → ltb first (length t) ≡ b → option_map (λ i. (take i t, drop (i + 1) t)) (cond b (Some first) None) ≡ Some p → pieces t ≡ p.0 ∷ pieces p.1
  first_by true p h e =
      let is_pair = same_pair (take first t, drop (first + 1) t) p e in
      slice_split_first (is LineEnd) t 0 (ltb-true first (length t) h) ∙ ap (λ (q : List ℕ × List ℕ). q.0 ∷ pieces q.1) is_pair
  first_by false p h e = cc

  first_piece : (p : List ℕ × List ℕ) → parted (is LineEnd) t ≡ Some p → pieces t ≡ p.0 ∷ pieces p.1
  first_piece p e = first_by (ltb first (length t)) p refl e

  -- one that has none is one piece
  none_by : (b : Bool) → ltb first (length t) ≡ b → option_map {U = List ℕ × List ℕ} (λ i. (take i t, drop (i + 1) t)) (cond b (Some first) None) ≡ None → pieces t ≡ t ∷ []
  none_by true h e = cc
  none_by false h e = slice_split_none (is LineEnd) t (λ k d lt. fails_before_first (is LineEnd) t k d (omega (arith, ltb-false first (length t) h, lt)))

  one_piece : parted (is LineEnd) t ≡ None → pieces t ≡ t ∷ []
  one_piece e = none_by (ltb first (length t)) refl e

  -- so the first line has one line end, and what comes after it has the others
  pub one_more : (q : List ℕ × List ℕ) → parted (is LineEnd) t ≡ Some q → line_ends t ≡ suc (line_ends q.1)
  one_more q e = omega (arith, length-slice_split (is LineEnd) t, length-slice_split (is LineEnd) q.1, ap length (first_piece q e))

  pub none_left : parted (is LineEnd) t ≡ None → line_ends t ≡ 0
  none_left e = omega (arith, length-slice_split (is LineEnd) t, ap length (one_piece e))

-- ---- the beats of a text

module _ (p : Protocol ℕ) (m : Moment ℕ) (n : ℕ) (t : List ℕ) where
  abbrev rest : Moment ℕ → List Shown
  rest m' = beats p m' (n + 1) (after t)

  abbrev key : List ℕ
  key = codes "beat"

  -- the beats of a text are what its first line says, and then those of what comes after
  by : (o : Option (List ℕ × List ℕ)) → parted (is LineEnd) t ≡ o → (eqb (length t) 0 ≡ false)
      → beats p m n t ≡ with_beat p m (said numbers (with_key key n (of_line o))) (λ m'. beats p m' (n + 1) (rest_of o))
  by None e some = ap (λ k. beats_by p m n k t) (none_left t e) ∙ ap (λ b. cond b [] (fault (at_line Key n) ∷ [])) some
  by (Some q) e some =
      ap (λ k. beats_by p m n k t) (one_more t q e)
      ∙ ap (λ o. with_beat p m (said numbers (with_key key n (of_line o))) (λ m'. beats_by p m' (n + 1) (line_ends q.1) (rest_of o))) e

  pub first_beat : (eqb (length t) 0 ≡ false) → beats p m n t ≡ with_beat p m (beat n t) rest
  first_beat some = by (parted (is LineEnd) t) refl some

-- the lines of a text that is not too long, of which something is left
module _ (p : Protocol ℕ) (m : Moment ℕ) (n : ℕ) (t text : List ℕ) (short : nat_le (length text) longest ≡ true) (some : false ≡ eqb (length t) 0) where
  line : {X : Type 0} (r : Result X TextFault) (x : Result X TextFault) → x ≡ unless_long text r → r ≡ x
  line r x e = sym (e ∙ ap (λ b. cond b r (Err (at_line Long 1))) short)

  -- what a line with heard sets shows, and what is then left, in the state that a step leaves
  pub heard_leaves : (heard : List ℕ) (event : Option Shown) (p' : Protocol ℕ) (m' : Moment ℕ) (n' : ℕ) (t' : List ℕ) → Ok heard ≡ unless_long text (beat n t) → event ≡ (outcome p m heard).0 → p' ≡ p → m' ≡ (outcome p m heard).1
      → n' ≡ n + 1 → t' ≡ after t → beats p m n t ≡ and_after event (beats p' m' n' t')
  heard_leaves heard event p' m' n' t' e a b c d f =
      rw (a, b, c, d, f) (first_beat p m n t (sym some) ∙ ap (λ r. with_beat p m r (λ m'. beats p m' (n + 1) (after t))) (line (beat n t) (Ok heard) e))

  -- and what one does that is no beat
  pub fault_next : (f : TextFault) → Err f ≡ unless_long text (beat n t) → beats p m n t ≡ fault f ∷ []
  fault_next f e = first_beat p m n t (sym some) ∙ ap (λ r. with_beat p m r (λ m'. beats p m' (n + 1) (after t))) (line (beat n t) (Err f) e)
