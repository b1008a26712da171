-- Fast follows OneThirdRule, over every kind of setup. Assumes nothing.
use Rattle.std.specs.Prelude.{◌≡◌, ℕ, ◌+◌, ◌*◌, ◌^◌, ◌<◌, ◌≤◌, Bool, true, false, cond, not, ◌&&◌, ◌⊎◌, List, length, map, Some, None, Option, nat_le, unwrap_or}
use Rattle.std.specs.Option.{option_or}
use Rattle.std.proofs.Common.{inl, inr, sym, refl, ap, ◌∙◌, subst, arith}
use Rattle.std.proofs.lemmas.Bool.{cond-false, cond-true, le-leb, leb-false, leb-true, lt-leb, lt-ltb, ltb-true}
use Rattle.std.proofs.lemmas.List.{length-map}
use Rattle.std.proofs.lemmas.Nat.{or_lt}
use Rattle.quorum.specs.Counts.{count_apart}
use Rattle.quorum.specs.Families.{thirds}
use Rattle.quorum.specs.Members.{has_below}
use Rattle.quorum.specs.Rules.{ClearLawful, Family, Lawful as RuleLawful}
use Rattle.quorum.specs.Sets.{count, within}
use Rattle.setup.specs.Orders.{Ordered}
use Rattle.setup.specs.Rows.{boxes_with}
use Rattle.setup.proofs.Gathering.{length_among, with_within}
use Rattle.agreement.specs.declared.slips.Slip.{Slip}
use Rattle.agreement.specs.Slips.{Stands}
use Rattle.procedures.specs.Fast.{favourite, polled}
use Rattle.procedures.specs.Published.Messages.{SmallestMostOften, messages, times}
use Rattle.procedures.specs.Published.OneThirdRule.{ByThirds, Follows}
use Rattle.procedures.specs.Received.{IsBacked, IsMostOften, backed, most_often, own, received, unheard}
use Rattle.procedures.specs.Laws.Fast.{has_unheard, one_favourite, possible, unheard_small}
use Rattle.procedures.specs.Laws.Received.{backed_is_backed, most_often_is_most_often, sender_sent}
use Rattle.procedures.specs.Laws.Sent.{own_stands}
use Rattle.procedures.proofs.Enough.{backed_often, backed_seldom, enough_heard}
use Rattle.procedures.proofs.Messaging.{most_reached}

module _ {V : Type 0} {before : V → V → Bool} (o : Ordered before) (f : Family) (law : RuleLawful f) (clear : ℕ → Bool) (view : ClearLawful f clear) (slip : Slip V) (heard : ℕ) (table : List (Slip V))
    (by : ByThirds f clear) (long : length table ≡ f.boxes) (inside : within f.boxes heard ≡ true) where
  abbrev n : ℕ
  n = f.boxes

  -- so many are more than two thirds
  abbrev enough : ℕ → Bool
  enough c = nat_le (thirds n) c

  abbrev row : List (Option V)
  row = received own table heard

  small : heard < 2 ^ n
  small = ltb-true heard (2 ^ n) inside

  -- ---- the decision

  -- a vote received often enough a quorum sent, and where there is none a quorum sent none
  decides : (w : V) → 2 * n < 3 * times before w (messages own table heard 0) → option_or (backed f before 0 row) slip.held ≡ Some w
  decides w lt =
      ap (λ (x : Option V). option_or x slip.held)
      (backed_often o f law enough by.quorums table long heard own w (le-leb (thirds n) (times before w (messages own table heard 0)) (omega (arith, lt))))

  waits : ((w : V) → 3 * times before w (messages own table heard 0) ≤ 2 * n) → option_or (backed f before 0 row) slip.held ≡ slip.held
  waits seldom =
      ap (λ (x : Option V). option_or x slip.held)
      (backed_seldom o f law enough by.quorums table long heard own (λ w. lt-leb (thirds n) (times before w (messages own table heard 0)) (omega (arith, seldom w))))

  -- ---- the vote

  -- a set is clear exactly if it is a quorum
  clear_quorum : clear heard ≡ f.quorum heard
  clear_quorum = by.clears heard ∙ sym (by.quorums heard)

  -- so exactly if so many messages reached it
  clear_enough : clear heard ≡ enough (length (messages own table heard 0))
  clear_enough = clear_quorum ∙ enough_heard o f law enough by.quorums table long heard own inside

  -- a box that heard too few keeps its vote
  keeps : 3 * length (messages own table heard 0) ≤ 2 * n → cond (clear heard) (unwrap_or (favourite f before heard row) slip.own) slip.own ≡ slip.own
  keeps le = cond-false (clear heard) _ slip.own (clear_enough ∙ lt-leb (thirds n) (length (messages own table heard 0)) (omega (arith, le)))

  -- the senders of v, and its possible quorum
  abbrev senders : V → ℕ
  senders v = boxes_with before v row

  abbrev possible_for : V → ℕ
  possible_for = possible f before heard row

  -- the senders are of the roster
  senders_small : (v : V) → senders v < 2 ^ n
  senders_small v = ltb-true (senders v) (2 ^ n) (with_within before v row n (length_among (map own table) heard 0 ∙ length-map table own ∙ long))

  -- and no sender was not heard
  possible_count : (v : V) → count (possible_for v) ≡ count (senders v) + count (unheard n heard)
  possible_count v =
      count_apart n (senders v) (unheard n heard) (senders_small v) (unheard_small n heard)
      (λ i h. has_unheard n heard i small (has_below n (senders v) i (senders_small v) h) ∙ ap not (sender_sent o v (map own table) heard i h).0)

  -- so whether it is a quorum goes by the two counts
  possible_enough : (v : V) → f.quorum (possible_for v) ≡ enough (count (senders v) + count (unheard n heard))
  possible_enough v =
      by.quorums (possible_for v)
      ∙ ap (λ (b : Bool). b && enough (count (possible_for v))) (lt-ltb _ (2 ^ n) (or_lt n (senders v) (unheard n heard) (senders_small v) (unheard_small n heard)))
      ∙ ap enough (possible_count v)

  module _ (is_clear : clear heard ≡ true) where
    -- a setup whose possible quorum is a quorum has more senders than any other
    more_senders : (v : V) → f.quorum (possible_for v) ≡ true → (w : V) → (w ≡ v) ⊎ (count (senders w) < count (senders v))
    more_senders v elected w = go (f.quorum (possible_for w)) refl
      where
        go : (b : Bool) → f.quorum (possible_for w) ≡ b → (w ≡ v) ⊎ (count (senders w) < count (senders v))
        go true too = inl (one_favourite o f clear view (map own table) heard is_clear w v too elected)
        go false not_so =
            let many = leb-true (thirds n) (count (senders v) + count (unheard n heard)) (sym (possible_enough v) ∙ elected) in
            let few = leb-false (thirds n) (count (senders w) + count (unheard n heard)) (sym (possible_enough w) ∙ not_so) in
            inr (omega (arith, many, few))

    -- so the favourite is the smallest of those most often received, whichever way it is found
    favourite_most : IsMostOften before row (favourite f before heard row)
    favourite_most = go (backed f before (unheard n heard) row) (backed_is_backed o f (unheard n heard) row)
      where
        go : (x : Option V) → IsBacked f before (unheard n heard) row x → IsMostOften before row (option_or x (most_often before row))
        go None none = most_often_is_most_often o row
        go (Some v) is = (is.0, λ w stood. pick w (more_senders v is.1 w))
          where
            pick : (w : V) → (w ≡ v) ⊎ (count (senders w) < count (senders v)) → (count (senders w) ≤ count (senders v)) × (count (senders w) ≡ count (senders v) → before w v ≡ false)
            pick w (inl same) = (omega (arith, ap (λ (x : V). count (senders x)) same), λ e. ap (λ (x : V). before x v) same ∙ o.irreflexive v)
            pick w (inr less) = (omega (arith, less), λ e. absurd (omega (arith, less, e)))

    -- something was received
    some_received : (v : V) × Stands v row
    some_received = own_stands f law table long heard (sym clear_quorum ∙ is_clear)

    -- so it is of the votes that reach it
    favourite_reached : SmallestMostOften before (messages own table heard 0) (unwrap_or (favourite f before heard row) slip.own)
    favourite_reached = go (favourite f before heard row) favourite_most
      where
        go : (x : Option V) → IsMostOften before row x → SmallestMostOften before (messages own table heard 0) (unwrap_or x slip.own)
        go None none = absurd (none some_received.0 some_received.1)
        go (Some v) is = most_reached o own table heard v is

  -- a box that heard enough votes for it
  votes : 2 * n < 3 * length (messages own table heard 0) → SmallestMostOften before (messages own table heard 0) (cond (clear heard) (unwrap_or (favourite f before heard row) slip.own) slip.own)
  votes lt =
      let is_clear : clear heard ≡ true = clear_enough ∙ le-leb (thirds n) (length (messages own table heard 0)) (omega (arith, lt)) in
      subst (SmallestMostOften before (messages own table heard 0)) (sym (cond-true (clear heard) _ slip.own is_clear)) (favourite_reached is_clear)

pub follows_one_third : {V : Type 0} {before : V → V → Bool} (o : Ordered before) (f : Family) (law : RuleLawful f) (clear : ℕ → Bool) (view : ClearLawful f clear) (slip new : Slip V) (heard : ℕ) (table : List (Slip V))
    → new ≡ polled f before clear heard (received own table heard) slip → Follows before f clear slip heard table new
follows_one_third {V} {before} o f law clear view slip new heard table made = subst (Follows before f clear slip heard table) (sym made) (record {
  begins = λ v. refl;
  round = λ by long inside. record {
    decides = decides o f law clear view slip heard table by long inside;
    waits = waits o f law clear view slip heard table by long inside;
    votes = votes o f law clear view slip heard table by long inside;
    keeps = keeps o f law clear view slip heard table by long inside;
  };
})
