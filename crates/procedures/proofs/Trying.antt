-- A search that tries the setup of each box that was heard, in turn, and a setup once: what is so of all that it has seen. Assumes nothing.
use Rattle.std.specs.Int.{bit_not}
use Rattle.std.proofs.Common.{◌≡◌, ℕ, ◌+◌, ◌^◌, ◌<◌, ◌≤◌, Bool, true, false, cond, ◌||◌, ◌⊎◌, List, length, Some, None, Option, bit_and, bit_or, sym, refl, ap, ◌∙◌, subst, inl, inr, arith, lit<, lt_of_lt_of_le, pow_mono, w32}
use Rattle.std.proofs.lemmas.Bool.{and_from, and_parts, both_ways, cases_Bool, cases_lt, false_from_ne_true, not_from_false, or_cases, or_left, or_right}
use Rattle.quorum.specs.Members.{has_and, has_below, has_not, has_or, has_past}
use Rattle.quorum.specs.Sets.{Part, has}
use Rattle.quorum.specs.Walking.{Lowest, without}
use Rattle.quorum.proofs.Growth.{same_parts}
use Rattle.quorum.proofs.Somes.{some_none}
use Rattle.quorum.proofs.Walks.{Left, left_without}
use Rattle.setup.specs.Orders.{Ordered}
use Rattle.setup.specs.Rows.{among, boxes_with, entry}
use Rattle.setup.proofs.Gathering.{with_below}
use Rattle.book.proofs.Sameness.{voters_unanimous, votes_among}
use Rattle.procedures.specs.Laws.Received.{heard_entry, sender_sent, sent_sender, unheard_entry}

-- what box i sent, where its setup was not tried yet
abbrev pub untried : {V : Type 0} → ℕ → ℕ → Option V → Option V
untried tried i sent = cond (has tried i) None sent

-- the boxes that were heard and whose setup was not tried yet
abbrev pub not_tried : ℕ → ℕ → ℕ
not_tried heard tried = bit_and heard (bit_not w32 tried)

module _ {V : Type 0} (row : List (Option V)) (heard : ℕ) where
  abbrev r : List (Option V)
  r = among row heard

  -- The boxes that are left were heard, and P is so of every other box, and of every box whose setup was tried. With a box that was tried, all that sent the same were.
  pub record Seen (P : ℕ → Type 0) (left tried : ℕ) : Type 0 where
    pub part : Part left heard
    pub passed : (m : ℕ) → has left m ≡ false → P m
    pub known : (m : ℕ) → has tried m ≡ true → P m
    pub whole : (j m : ℕ) → entry r m ≡ entry r j → has tried j ≡ true → has tried m ≡ true

  nowhere : (m : ℕ) → has 0 m ≡ false
  nowhere m = has_past 0 0 m (lit< tt) (omega arith)

  -- at first all that were heard are left
  pub nothing_seen : (P : ℕ → Type 0) → ((m : ℕ) → entry r m ≡ None → P m) → Seen P heard 0
  nothing_seen P silent = record {
    part = λ m h. h;
    passed = λ m h. silent m (unheard_entry row heard m h);
    known = λ m h. absurd (both_ways (has 0 m) (nowhere m) h);
    whole = λ j m same h. absurd (both_ways (has 0 j) (nowhere j) h);
  }

  -- no box is left: P is so of all
  pub all_seen : (P : ℕ → Type 0) (left tried : ℕ) → left ≡ 0 → Seen P left tried → (m : ℕ) → P m
  all_seen P left tried none seen m = seen.passed m (ap (λ (s : ℕ). has s m) none ∙ nowhere m)

  module _ (left t i tried : ℕ) (low : Lowest left i × (t ≡ without left i)) where
    -- a box that is left no more was not left, or is box i
    gone : (m : ℕ) → has t m ≡ false → (has left m ≡ false) ⊎ (i ≡ m)
    gone m h = go (cases_lt m i) (cases_lt i m)
      where
        go : (m < i) ⊎ (i ≤ m) → (i < m) ⊎ (m ≤ i) → (has left m ≡ false) ⊎ (i ≡ m)
        go (inl lt) d = inl (low.0.2 m lt)
        go (inr le) (inl lt) =
            let rest = left_without i left low.0.1 low.0.2 in inl (sym (rest.above m lt) ∙ ap (λ (s : ℕ). has s m) (sym low.1) ∙ h)
        go (inr le) (inr ge) = inr (omega arith)

    still : (m : ℕ) → has t m ≡ true → has left m ≡ true
    still m h = go (cases_lt i m)
      where
        rest : Left left i
        rest = left_without i left low.0.1 low.0.2

        there : has (without left i) m ≡ true
        there = ap (λ (s : ℕ). has s m) (sym low.1) ∙ h

        go : (i < m) ⊎ (m ≤ i) → has left m ≡ true
        go (inl lt) = sym (rest.above m lt) ∙ there
        go (inr le) = absurd (both_ways (has (without left i) m) (rest.below m le) there)

    -- box i is one more
    one_more : (P : ℕ → Type 0) → ((m : ℕ) → has left m ≡ false → P m) → P i → (m : ℕ) → has t m ≡ false → P m
    one_more P passed here m h = go (gone m h)
      where
        go : (has left m ≡ false) ⊎ (i ≡ m) → P m
        go (inl out) = passed m out
        go (inr same) = subst P same here

    module _ (seen_part : Part left heard) where
      stood : entry r i ≡ entry row i
      stood = heard_entry row heard i (seen_part i low.0.1)

      -- where there is such a setup, it sent it, and was not tried
      pub fresh_sent : (y : Option V) (v : V) → y ≡ untried tried i (entry row i) → y ≡ Some v → (entry r i ≡ Some v) × (has tried i ≡ false)
      fresh_sent y v e is = go (has tried i) (sym e ∙ is)
        where
          go : (b : Bool) → cond b None (entry row i) ≡ Some v → (entry r i ≡ Some v) × (b ≡ false)
          go true h = absurd (some_none (sym h))
          go false h = (stood ∙ h, refl)

      -- where there is none it sent nothing, or its setup was tried
      skipped : (y : Option V) → y ≡ untried tried i (entry row i) → y ≡ None → (entry r i ≡ None) ⊎ (has tried i ≡ true)
      skipped y e none = go (cases_Bool (has tried i))
        where
          go : (has tried i ≡ true) ⊎ (has tried i ≡ false) → (entry r i ≡ None) ⊎ (has tried i ≡ true)
          go (inl h) = inr h
          go (inr h) = inl (stood ∙ sym (ap (λ (b : Bool). cond b None (entry row i)) h) ∙ sym e ∙ none)

    -- the box is skipped then: what is so of a box that sent nothing is so of all that was seen
    pub box_skipped : (P : ℕ → Type 0) (y : Option V) → y ≡ untried tried i (entry row i) → y ≡ None → (entry r i ≡ None → P i) → Seen P left tried → Seen P t tried
    box_skipped P y e none silent seen = record { part = λ m h. seen.part m (still m h); passed = one_more P seen.passed (go (skipped seen.part y e none)); known = seen.known; whole = seen.whole }
      where
        go : (entry r i ≡ None) ⊎ (has tried i ≡ true) → P i
        go (inl n) = silent n
        go (inr old) = seen.known i old

    -- and else a box that was tried sent another setup: the senders of this one are all among those that were not
    pub all_senders : {before : V → V → Bool} → Ordered before → (P : ℕ → Type 0) (y : Option V) (v : V) → y ≡ untried tried i (entry row i) → y ≡ Some v → heard < 2 ^ 32 → tried < 2 ^ 32 → Seen P left tried
        → boxes_with before v (among row (not_tried heard tried)) ≡ boxes_with before v r
    all_senders {before} o P y v e is few fits seen =
        same_parts (length (among row rest) + length r) _ _ (lt_of_lt_of_le (with_below before v (among row rest)) (pow_mono (omega arith))) (lt_of_lt_of_le (with_below before v r) (pow_mono (omega arith)))
        (λ m h. let s = sender_sent o v row rest m h in sent_sender o v row heard m (and_parts _ _ (sym (has_and heard (bit_not w32 tried) m) ∙ s.0)).0 s.1)
        (λ m h. let s = sender_sent o v row heard m h in sent_sender o v row rest m (has_and heard (bit_not w32 tried) m ∙ and_from _ _ s.0 (has_not tried m fits (has_below 32 heard m few s.0) ∙ not_from_false _ (other m h))) s.1)
      where
        rest : ℕ
        rest = not_tried heard tried

        other : (m : ℕ) → has (boxes_with before v r) m ≡ true → has tried m ≡ false
        other m h = let f = fresh_sent seen.part y v e is in false_from_ne_true _ (λ old. both_ways (has tried i) f.1 (seen.whole m i (f.0 ∙ sym (voters_unanimous o v r m h)) old))

    -- it is tried then: where P makes Q so of a box, and Q is so of those that sent this setup, Q is so of all that was seen
    pub setup_tried : {before : V → V → Bool} → Ordered before → (P Q : ℕ → Type 0) (y : Option V) (v : V) (senders next : ℕ) → y ≡ untried tried i (entry row i) → y ≡ Some v → senders ≡ boxes_with before v r → next ≡ bit_or tried senders
        → ((m : ℕ) → P m → Q m) → ((m : ℕ) → entry r m ≡ Some v → Q m) → Seen P left tried → Seen Q t next
    setup_tried o P Q y v senders next e is found joins stays sends seen = record {
      part = λ m h. seen.part m (still m h);
      passed = one_more Q (λ m h. stays m (seen.passed m h)) (sends i (fresh_sent seen.part y v e is).0);
      known = λ m h. new m (which m h);
      whole = λ j m same h. joined m (with_it j m same (which j h));
    }
      where
        -- a box that was tried now was tried before, or sent this setup; and the other way round
        which : (m : ℕ) → has next m ≡ true → (has tried m ≡ true) ⊎ (entry r m ≡ Some v)
        which m h = go (or_cases (has tried m) (has senders m) (sym (has_or tried senders m) ∙ ap (λ (s : ℕ). has s m) (sym joins) ∙ h))
          where
            go : (has tried m ≡ true) ⊎ (has senders m ≡ true) → (has tried m ≡ true) ⊎ (entry r m ≡ Some v)
            go (inl old) = inl old
            go (inr one) = inr (voters_unanimous o v r m (ap (λ (s : ℕ). has s m) (sym found) ∙ one))

        joined : (m : ℕ) → (has tried m ≡ true) ⊎ (entry r m ≡ Some v) → has next m ≡ true
        joined m by = ap (λ (s : ℕ). has s m) joins ∙ has_or tried senders m ∙ go by
          where
            go : (has tried m ≡ true) ⊎ (entry r m ≡ Some v) → (has tried m || has senders m) ≡ true
            go (inl old) = or_left _ _ old
            go (inr sent) = or_right _ _ (ap (λ (s : ℕ). has s m) found ∙ votes_among o v r m sent)

        new : (m : ℕ) → (has tried m ≡ true) ⊎ (entry r m ≡ Some v) → Q m
        new m (inl old) = stays m (seen.known m old)
        new m (inr sent) = sends m sent

        with_it : (j m : ℕ) → entry r m ≡ entry r j → (has tried j ≡ true) ⊎ (entry r j ≡ Some v) → (has tried m ≡ true) ⊎ (entry r m ≡ Some v)
        with_it j m same (inl old) = inl (seen.whole j m same old)
        with_it j m same (inr sent) = inr (same ∙ sent)
