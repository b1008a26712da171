-- What the book tests box by box is what the guards say. Assumes nothing.
use Rattle.std.proofs.Common.{◌≡◌, ℕ, ◌^◌, ◌<◌, ◌≤◌, Bool, true, false, not, ◌&&◌, ◌⊎◌, List, length, Some, None, Option, sym, refl, ap, ◌∙◌, subst, inl, inr, arith}
use Rattle.std.proofs.lemmas.List.{get_or_past}
use Rattle.std.proofs.lemmas.Bool.{and_cases, and_left, and_right, both_ways, cases_Bool, cases_lt, ltb-true, not-false, not_from_true}
use Rattle.quorum.specs.Rules.{Family, Lawful}
use Rattle.quorum.specs.Members.{has_below}
use Rattle.setup.specs.Orders.{Ordered}
use Rattle.setup.specs.Rows.{boxes_with, entry, same}
use Rattle.setup.proofs.Sameness.{equal_same, same_equal}
use Rattle.book.specs.Pages.{lacks, turns, unbacked}
use Rattle.book.specs.Voting.{Backed, Loyal}
use Rattle.book.proofs.Sameness.{votes_among, voters_quorum, voters_unanimous}

-- a box that has an entry is below the row's length
entry_below : {V : Type 0} (row : List (Option V)) (i n : ℕ) (w : V) → length row ≡ n → entry row i ≡ Some w → i < n
entry_below {V} row i n w len e = go (cases_lt i (length row))
  where
    go : (i < length row) ⊎ (length row ≤ i) → i < n
    go (inl lt) = subst (λ (k : ℕ). i < k) len lt
    go (inr le) = let none = get_or_past row i None le in let z : ◌≡◌ {A = ℕ} 0 1 = cc in absurd (omega arith)

module _ {V : Type 0} {before : V → V → Bool} (o : Ordered before) (f : Family) (law : Lawful f) where
  -- where the row is loyal, no box turns
  pub loyal_turns : (earlier votes : List (Option V)) → Loyal f earlier votes → (i : ℕ) → turns f before earlier (entry earlier i) (entry votes i) ≡ false
  loyal_turns earlier votes loyal i = go (entry earlier i) (entry votes i) refl refl
    where
      pick : (v w : V) → entry earlier i ≡ Some v → entry votes i ≡ Some w → (same before v w ≡ true) ⊎ (same before v w ≡ false)
          → (f.quorum (boxes_with before v earlier) ≡ true) ⊎ (f.quorum (boxes_with before v earlier) ≡ false)
          → (not (same before v w) && f.quorum (boxes_with before v earlier)) ≡ false
      pick v w ex ey (inl s) d = and_left (not (same before v w)) (f.quorum (boxes_with before v earlier)) (not_from_true (same before v w) s)
      pick v w ex ey (inr s) (inr d) = and_right (not (same before v w)) (f.quorum (boxes_with before v earlier)) d
      pick v w ex ey (inr s) (inl d) =
          absurd (both_ways (same before v w) s (equal_same o v w (sym (loyal (boxes_with before v earlier) i v w d (voters_unanimous o v earlier) (votes_among o v earlier i ex) ey))))

      go : (x y : Option V) → entry earlier i ≡ x → entry votes i ≡ y → turns f before earlier x y ≡ false
      go None y ex ey = refl
      go (Some v) None ex ey = refl
      go (Some v) (Some w) ex ey = pick v w ex ey (cases_Bool (same before v w)) (cases_Bool (f.quorum (boxes_with before v earlier)))

  -- and where no box turns, the row is loyal
  pub turns_loyal : (earlier votes : List (Option V)) → length earlier ≡ f.boxes → ((i : ℕ) → i < f.boxes → turns f before earlier (entry earlier i) (entry votes i) ≡ false)
      → Loyal f earlier votes
  turns_loyal earlier votes len none q i v w h all inside e =
      pick (and_cases (not (same before v w)) (f.quorum (boxes_with before v earlier)) stays)
    where
      stays : turns f before earlier (Some v) (Some w) ≡ false
      stays =
          let lt = has_below f.boxes q i (ltb-true q (2 ^ f.boxes) (law.inside q h)) inside in
          sym (ap (λ (x : Option V). turns f before earlier x (entry votes i)) (all i inside) ∙ ap (turns f before earlier (Some v)) e) ∙ none i lt

      pick : (not (same before v w) ≡ false) ⊎ (f.quorum (boxes_with before v earlier) ≡ false) → w ≡ v
      pick (inl s) = sym (same_equal o v w (not-false (same before v w) s))
      pick (inr d) = absurd (both_ways (f.quorum (boxes_with before v earlier)) d (voters_quorum o f law v earlier q len h all))

  -- where every decision is backed, no box is unbacked
  pub backed_lacks : (votes decisions : List (Option V)) → length votes ≡ f.boxes → Backed f votes decisions → (i : ℕ) → unbacked f before votes decisions i ≡ false
  backed_lacks votes decisions len backed i = go (entry decisions i) refl
    where
      go : (y : Option V) → entry decisions i ≡ y → lacks f before votes y ≡ false
      go None e = refl
      go (Some w) e =
          let b = backed i w e in
          not_from_true (f.quorum (boxes_with before w votes)) (voters_quorum o f law w votes b.0 len b.1 b.2)

  -- and where no box is unbacked, every decision is backed
  pub lacks_backed : (votes decisions : List (Option V)) → length decisions ≡ f.boxes → ((i : ℕ) → i < f.boxes → unbacked f before votes decisions i ≡ false)
      → Backed f votes decisions
  lacks_backed votes decisions len none i w e =
      let lt = entry_below decisions i f.boxes w len e in
      let stays : lacks f before votes (Some w) ≡ false = sym (ap (lacks f before votes) e) ∙ none i lt in
      (boxes_with before w votes, not-false (f.quorum (boxes_with before w votes)) stays, voters_unanimous o w votes)
