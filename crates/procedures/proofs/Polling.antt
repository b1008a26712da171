-- The search for a setup that a quorum backs: what is tried, turn by turn, and what it comes to. Assumes nothing.
use Rattle.std.proofs.Common.{◌≡◌, ℕ, ◌^◌, ◌<◌, ◌≤◌, ◌⊎◌, Bool, true, false, List, length, Some, None, Option, bit_or, sym, ap, ◌∙◌, inl, inr}
use Rattle.std.proofs.lemmas.Bool.{cases_lt}
use Rattle.std.proofs.lemmas.List.{get_or_past}
use Rattle.quorum.specs.Rules.{Family}
use Rattle.quorum.specs.Walking.{Lowest, without}
use Rattle.quorum.proofs.Lowest.{lowest_is, lowest_none}
use Rattle.quorum.proofs.Somes.{some_none}
use Rattle.setup.specs.Orders.{Ordered}
use Rattle.setup.specs.Rows.{among, boxes_with, entry}
use Rattle.procedures.specs.Received.{backer, elects}
use Rattle.procedures.proofs.Trying.{Seen, all_seen, all_senders, box_skipped, fresh_sent, not_tried, nothing_seen, setup_tried, untried}

-- where something stands, there is an entry
stands_within : {V : Type 0} (row : List (Option V)) (i : ℕ) (v : V) → entry row i ≡ Some v → i < length row
stands_within {V} row i v e = go (cases_lt i (length row))
  where
    go : (i < length row) ⊎ (length row ≤ i) → i < length row
    go (inl lt) = lt
    go (inr le) = absurd (some_none (sym e ∙ get_or_past row i None le))

module _ {V : Type 0} (f : Family) (before : V → V → Bool) (others : ℕ) (row : List (Option V)) (heard : ℕ) where
  abbrev r : List (Option V)
  r = among row heard

  -- no quorum backs what box m sent
  abbrev pub Lacks : ℕ → Type 0
  Lacks m = elects f before others r (entry r m) ≡ false

  pub none_tried : Seen row heard Lacks heard 0
  none_tried = nothing_seen row heard Lacks (λ m none. ap (elects f before others r) none)

  module _ (left t i tried : ℕ) (low : Lowest left i × (t ≡ without left i)) (y : Option V) (fresh : y ≡ untried tried i (entry row i)) where
    pub turn_skips : y ≡ None → Seen row heard Lacks left tried → Seen row heard Lacks t tried
    turn_skips none seen = box_skipped row heard left t i tried low Lacks y fresh none (ap (elects f before others r)) seen

    module _ (o : Ordered before) (v : V) (senders : ℕ) (few : heard < 2 ^ 32) (fits : tried < 2 ^ 32) (is : y ≡ Some v) (found : senders ≡ boxes_with before v (among row (not_tried heard tried))) (seen : Seen row heard Lacks left tried) where
      all : senders ≡ boxes_with before v r
      all = found ∙ all_senders row heard left t i tried low o Lacks y v fresh is few fits seen

      pub turn_tries : (q : ℕ) → false ≡ f.quorum (bit_or senders others) → q ≡ bit_or tried senders → Seen row heard Lacks t q
      turn_tries q lacking joins =
          setup_tried row heard left t i tried low o Lacks Lacks y v senders q fresh is all joins (λ m old. old)
          (λ m sent. ap (elects f before others r) sent ∙ ap (λ (s : ℕ). f.quorum (bit_or s others)) (sym all) ∙ sym lacking) seen

      pub found_there : true ≡ f.quorum (bit_or senders others) → Some i ≡ backer f before others r
      found_there backs =
          let sent = (fresh_sent row heard left t i tried low seen.part y v fresh is).0 in
          sym (lowest_is (λ m. elects f before others r (entry r m)) (length r) i (stands_within r i v sent)
          (ap (elects f before others r) sent ∙ ap (λ (s : ℕ). f.quorum (bit_or s others)) (sym all) ∙ sym backs) (λ m lt. seen.passed m (low.0.2 m lt)))

  pub found_none : (left tried : ℕ) → left ≡ 0 → Seen row heard Lacks left tried → None ≡ backer f before others r
  found_none left tried none seen = sym (lowest_none (λ m. elects f before others r (entry r m)) (length r) (λ m lt. all_seen row heard Lacks left tried none seen m))
