-- What a box received depends on the slips that it heard only, and what is found in it stood there. Assumes nothing.
use Rattle.std.specs.Prelude.{◌≡◌, ℕ, zero, suc, ◌+◌, ◌<◌, ◌≤◌, Bool, true, false, cond, not, ◌&&◌, ◌⊎◌, List, [], ◌∷◌, length, map, Some, None, Option, ◌==◌, bit_or, nat_lt}
use Rattle.std.specs.Option.{option_and_then, option_map}
use Rattle.std.proofs.Common.{inl, inr, sym, refl, ap, ◌∙◌, subst, arith, lt_of_lt_of_le, pow_mono}
use Rattle.std.proofs.lemmas.Bool.{both_ways, cases_Bool, cases_lt, eq-eqb, eqb-true, le-ltb, ltb-false, or_parts}
use Rattle.std.proofs.lemmas.List.{get_or_past}
use Rattle.quorum.specs.Boxes.{IsLowest, lowest}
use Rattle.quorum.specs.Rules.{Family}
use Rattle.quorum.specs.Sets.{count, has}
use Rattle.quorum.proofs.Growth.{same_boxes}
use Rattle.quorum.proofs.Lowest.{lowest_alike, lowest_is_lowest}
use Rattle.quorum.proofs.Somes.{some_is, some_none}
use Rattle.setup.specs.Kinds.{dated_before}
use Rattle.setup.specs.Lawful.{backwards_ordered, lexical_ordered, unsigned_ordered}
use Rattle.setup.specs.Orders.{Ordered}
use Rattle.setup.specs.Rows.{IsFirst, among, boxes_with, entry, first, is}
use Rattle.setup.proofs.Gathering.{with_below, with_has}
use Rattle.setup.proofs.Searching.{Least, among_from, among_in, among_out, first_is_first, first_same, least}
use Rattle.book.specs.Voting.{Unanimous}
use Rattle.book.proofs.Sameness.{voters_unanimous, votes_among}
use Rattle.agreement.specs.declared.slips.Slip.{Slip}
use Rattle.agreement.specs.Laws.{Alike}
use Rattle.agreement.specs.Slips.{Stands}
use Rattle.agreement.proofs.Entries.{field_alike}
use Rattle.procedures.specs.Received.{IsBacked, IsMostOften, IsUnanimous, backed, counted, elects, most_often, received, unanimous}

-- ---- what stands in a row

-- what a box sent that was heard, and none for another box
pub heard_entry : {W : Type 0} (row : List (Option W)) (s i : ℕ) → has s i ≡ true → entry (among row s) i ≡ entry row i
heard_entry = among_in

pub unheard_entry : {W : Type 0} (row : List (Option W)) (s i : ℕ) → has s i ≡ false → entry (among row s) i ≡ None
unheard_entry = among_out

-- what stands in a row of what was received was sent by a box that was heard
pub sent : {W : Type 0} (row : List (Option W)) (s i : ℕ) (w : W) → entry (among row s) i ≡ Some w → (has s i ≡ true) × (entry row i ≡ Some w)
sent = among_from

-- where it is not none there is one, and where it is no value it is none
there_is : {W : Type 0} (x : Option W) → (x ≡ None → ⊥) → (w : W) × (x ≡ Some w)
there_is None some = absurd (some refl)
there_is (Some w) some = (w, refl)

pub there_is_none : {W : Type 0} (x : Option W) → ((w : W) → x ≡ Some w → ⊥) → x ≡ None
there_is_none None never = refl
there_is_none (Some w) never = absurd (never w refl)

-- the pair of what a box sent
pub counted_entry : {V : Type 0} (before : V → V → Bool) (row : List (Option V)) (i : ℕ) → entry (map (counted before row) row) i ≡ counted before row (entry row i)
counted_entry {V} before row i = each row i
  where
    each : (l : List (Option V)) (i : ℕ) → entry (map (counted before row) l) i ≡ counted before row (entry l i)
    each [] i = refl
    each (x ∷ l) zero = refl
    each (x ∷ l) (suc i) = each l i

module _ {V : Type 0} {before : V → V → Bool} (o : Ordered before) where
  -- a sender of v was heard, and sent v; and the other way round
  pub sender_sent : (v : V) (row : List (Option V)) (s i : ℕ) → has (boxes_with before v (among row s)) i ≡ true → (has s i ≡ true) × (entry row i ≡ Some v)
  sender_sent v row s i h = sent row s i v (voters_unanimous o v (among row s) i h)

  pub sent_sender : (v : V) (row : List (Option V)) (s i : ℕ) → has s i ≡ true → entry row i ≡ Some v → has (boxes_with before v (among row s)) i ≡ true
  sent_sender v row s i h e = votes_among o v (among row s) i (heard_entry row s i h ∙ e)

  -- where it was sent by a box that was heard, it stands in what was received
  pub stands : {W : Type 0} (w : W) (row : List (Option W)) (s i : ℕ) → has s i ≡ true → entry row i ≡ Some w → Stands w (among row s)
  stands w row s i h e = (i, heard_entry row s i h ∙ e)

  -- ---- what the searches find

  -- the smallest of a row stands there, and where something stands there is one
  pub first_stands : (row : List (Option V)) (v : V) → first before row ≡ Some v → Stands v row
  first_stands row v e = (subst (Least o row) e (least o row)).0

  pub first_there : (row : List (Option V)) (w : V) → Stands w row → (v : V) × (first before row ≡ Some v)
  first_there row w stood = there_is (first before row) (λ e. some_none (sym stood.1 ∙ subst (Least o row) e (least o row) stood.0))

  -- past its end no box elects
  past_end : (f : Family) (others : ℕ) (row : List (Option V)) (i : ℕ) → length row ≤ i → elects f before others row (entry row i) ≡ false
  past_end f others row i le = ap (elects f before others row) (get_or_past row i None le)

  pub backed_is_backed : (f : Family) (others : ℕ) (row : List (Option V)) → IsBacked f before others row (backed f before others row)
  backed_is_backed f others row = go (lowest test (length row)) (lowest_is_lowest test (length row))
    where
      test : ℕ → Bool
      test i = elects f before others row (entry row i)

      chosen : (i : ℕ) (x : Option V) → entry row i ≡ x → elects f before others row x ≡ true → IsBacked f before others row x
      chosen i None e h = absurd (both_ways false refl h)
      chosen i (Some v) e h = ((i, e), h)

      go : (r : Option ℕ) → IsLowest test (length row) r → IsBacked f before others row (option_and_then (entry row) r)
      go (Some i) law = chosen i (entry row i) refl law.1
      go None law = λ v stood.
          let here : elects f before others row (Some v) ≡ test stood.0 = ap (elects f before others row) (sym stood.1) in
          here ∙ below stood.0 (cases_lt stood.0 (length row))
        where
          below : (i : ℕ) → (i < length row) ⊎ (length row ≤ i) → test i ≡ false
          below i (inl lt) = law i lt
          below i (inr le) = past_end f others row i le

  -- what is backed stands in the row
  pub backed_stands : (f : Family) (others : ℕ) (row : List (Option V)) (v : V) → backed f before others row ≡ Some v → Stands v row
  backed_stands f others row v e = (subst (IsBacked f before others row) e (backed_is_backed f others row)).0

  pub unanimous_is_unanimous : (heard : ℕ) (row : List (Option V)) → IsUnanimous before heard (among row heard) (unanimous before heard (among row heard))
  unanimous_is_unanimous heard row = go (first before r) refl (first_is_first o row heard)
    where
      r : List (Option V)
      r = among row heard

      go : (x : Option V) → first before r ≡ x → IsFirst before row heard x → IsUnanimous before heard r (option_and_then (λ v. cond (boxes_with before v r == heard) (Some v) None) x)
      go None e law = λ w stood all. let at = sent row heard stood.0 w stood.1 in absurd (some_none (sym at.1 ∙ law stood.0 at.0))
      go (Some v) e law = pick (boxes_with before v r == heard) refl
        where
          pick : (b : Bool) → (boxes_with before v r == heard) ≡ b → IsUnanimous before heard r (cond b (Some v) None)
          pick true h = (stands v row heard law.0.0 law.0.1 law.0.2, eqb-true _ heard h)
          pick false h = λ w stood all.
              let there : has (boxes_with before w r) law.0.0 ≡ true = ap (λ (t : ℕ). has t law.0.0) all ∙ law.0.1 in
              let same : w ≡ v = some_is (sym (sender_sent w row heard law.0.0 there).1 ∙ law.0.2) in
              both_ways (boxes_with before v r == heard) h (eq-eqb _ heard (subst (λ (x : V). boxes_with before x r ≡ heard) same all))

  -- what is unanimous stands there, and was sent by all that were heard
  pub unanimous_stands : (s : ℕ) (row : List (Option V)) (v : V) → unanimous before s (among row s) ≡ Some v → Stands v (among row s)
  unanimous_stands s row v e = (subst (IsUnanimous before s (among row s)) e (unanimous_is_unanimous s row)).0

  pub unanimous_sent : (s : ℕ) (row : List (Option V)) (v : V) → unanimous before s (among row s) ≡ Some v → Unanimous s v row
  unanimous_sent s row v e i h =
      let law = subst (IsUnanimous before s (among row s)) e (unanimous_is_unanimous s row) in (sender_sent v row s i (ap (λ (t : ℕ). has t i) law.1 ∙ h)).1

  -- dated votes are in order
  pub dates : Ordered (dated_before before)
  dates = lexical_ordered (backwards_ordered unsigned_ordered) o

  pub most_often_is_most_often : (row : List (Option V)) → IsMostOften before row (most_often before row)
  most_often_is_most_often row = go (first (dated_before before) pairs) (least dates pairs)
    where
      pairs : List (Option (ℕ × V))
      pairs = map (counted before row) row

      go : (x : Option (ℕ × V)) → Least dates pairs x → IsMostOften before row (option_map (λ d. d.1) x)
      go None none = λ v stood. some_none (sym (counted_entry before row stood.0 ∙ ap (counted before row) stood.1) ∙ none stood.0)
      go (Some p) law = ((law.0.0, (pair (entry row law.0.0) (sym (counted_entry before row law.0.0) ∙ law.0.1)).1), λ w stood. other w stood)
        where
          -- a pair is of what was sent
          pair : (x : Option V) → counted before row x ≡ Some p → (p.0 ≡ count (boxes_with before p.1 row)) × (x ≡ Some p.1)
          pair None e = absurd (some_none (sym e))
          pair (Some v) e =
              let is = some_is e in
              let named : v ≡ p.1 = ap (λ (d : ℕ × V). d.1) is in
              (sym (ap (λ (d : ℕ × V). d.0) is) ∙ ap (λ (u : V). count (boxes_with before u row)) named, ap {B = Option V} Some named)

          rest : (t b : Bool) → t ≡ false → (not t && b) ≡ false → b ≡ false
          rest true b e h = absurd (both_ways true e refl)
          rest false b e h = h

          other : (w : V) → Stands w row → (count (boxes_with before w row) ≤ count (boxes_with before p.1 row)) × (count (boxes_with before w row) ≡ count (boxes_with before p.1 row) → before w p.1 ≡ false)
          other w stood =
              let behind = law.1 stood.0 (count (boxes_with before w row), w) (counted_entry before row stood.0 ∙ ap (counted before row) stood.1) in
              let parts : (nat_lt p.0 (count (boxes_with before w row)) ≡ false) × ((not (nat_lt (count (boxes_with before w row)) p.0) && before w p.1) ≡ false) = or_parts _ _ behind in
              let most = (pair (entry row law.0.0) (sym (counted_entry before row law.0.0) ∙ law.0.1)).0 in
              (omega (arith, ltb-false (p.0) (count (boxes_with before w row)) parts.0, most), λ same. rest (nat_lt (count (boxes_with before w row)) p.0) (before w p.1) (le-ltb (count (boxes_with before w row)) p.0 (omega (arith, same, most))) parts.1)

  -- what most sent stands in the row, and where something stands there is one
  pub often_stands : (row : List (Option V)) (v : V) → most_often before row ≡ Some v → Stands v row
  often_stands row v e = (subst (IsMostOften before row) e (most_often_is_most_often row)).0

  pub often_there : (row : List (Option V)) (w : V) → Stands w row → (v : V) × (most_often before row ≡ Some v)
  often_there row w stood = there_is (most_often before row) (λ e. subst (IsMostOften before row) e (most_often_is_most_often row) w stood)

-- ---- tables that are alike at the boxes that were heard

module _ {V W : Type 0} {before : W → W → Bool} (o : Ordered before) (field : Slip V → Option W) (t u : List (Slip V)) (s : ℕ) (same : Alike s t u) where
  -- what was received of each
  abbrev of_t : List (Option W)
  of_t = received field t s

  abbrev of_u : List (Option W)
  of_u = received field u s

  each : (i : ℕ) → entry of_t i ≡ entry of_u i
  each i = go (cases_Bool (has s i))
    where
      go : (has s i ≡ true) ⊎ (has s i ≡ false) → entry of_t i ≡ entry of_u i
      go (inl h) = heard_entry (map field t) s i h ∙ field_alike field t u i (same i h) ∙ sym (heard_entry (map field u) s i h)
      go (inr h) = unheard_entry (map field t) s i h ∙ sym (unheard_entry (map field u) s i h)

  senders_alike : (v : W) → boxes_with before v of_t ≡ boxes_with before v of_u
  senders_alike v =
      same_boxes (length of_t + length of_u) _ _ (lt_of_lt_of_le (with_below before v of_t) (pow_mono (omega arith))) (lt_of_lt_of_le (with_below before v of_u) (pow_mono (omega arith)))
      (λ i. with_has before v of_t i ∙ ap (is before v) (each i) ∙ sym (with_has before v of_u i))

  pub backed_alike : (f : Family) (others : ℕ) → backed f before others of_t ≡ backed f before others of_u
  backed_alike f others =
      ap (option_and_then (entry of_t)) (lowest_alike (λ i. elects f before others of_t (entry of_t i)) (λ i. elects f before others of_u (entry of_u i)) (length of_t) (length of_u) tests (past_end o f others of_t) (past_end o f others of_u))
      ∙ chosen (lowest (λ i. elects f before others of_u (entry of_u i)) (length of_u))
    where
      elects_alike : (x : Option W) → elects f before others of_t x ≡ elects f before others of_u x
      elects_alike None = refl
      elects_alike (Some v) = ap (λ (x : ℕ). f.quorum (bit_or x others)) (senders_alike v)

      tests : (i : ℕ) → elects f before others of_t (entry of_t i) ≡ elects f before others of_u (entry of_u i)
      tests i = ap (elects f before others of_t) (each i) ∙ elects_alike (entry of_u i)

      chosen : (x : Option ℕ) → option_and_then (entry of_t) x ≡ option_and_then (entry of_u) x
      chosen None = refl
      chosen (Some i) = each i

  pub first_is_alike : first before of_t ≡ first before of_u
  first_is_alike = first_same o of_t of_u each

  pub unanimous_alike : unanimous before s of_t ≡ unanimous before s of_u
  unanimous_alike =
      ap (option_and_then (λ v. cond (boxes_with before v of_t == s) (Some v) None)) first_is_alike ∙ go (first before of_u)
    where
      go : (x : Option W) → option_and_then (λ v. cond (boxes_with before v of_t == s) (Some v) None) x ≡ option_and_then (λ v. cond (boxes_with before v of_u == s) (Some v) None) x
      go None = refl
      go (Some v) = ap {B = Option W} (λ (x : ℕ). cond (x == s) (Some v) None) (senders_alike v)

  pub often_alike : most_often before of_t ≡ most_often before of_u
  often_alike = ap {B = Option W} (option_map (λ d. d.1)) (first_same (dates o) (map (counted before of_t) of_t) (map (counted before of_u) of_u) pairs)
    where
      alike : (x : Option W) → counted before of_t x ≡ counted before of_u x
      alike None = refl
      alike (Some v) = ap {B = Option (ℕ × W)} (λ (x : ℕ). Some (count x, v)) (senders_alike v)

      pairs : (i : ℕ) → entry (map (counted before of_t) of_t) i ≡ entry (map (counted before of_u) of_u) i
      pairs i = counted_entry before of_t i ∙ ap (counted before of_t) (each i) ∙ alike (entry of_u i) ∙ sym (counted_entry before of_u i)
