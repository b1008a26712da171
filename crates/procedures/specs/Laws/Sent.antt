-- What a quorum sent, and what is found where all that were heard sent one setup. Assumes nothing.
use Rattle.std.specs.Prelude.{◌≡◌, ℕ, ◌+◌, ◌^◌, ◌<◌, Bool, true, List, length, map, Some, None, Option, bit_or}
use Rattle.std.specs.Int.Bits.{or_zero_r}
use Rattle.std.proofs.Common.{sym, ap, ◌∙◌, subst, arith, lt_of_lt_of_le, pow_mono}
use Rattle.std.proofs.lemmas.Bool.{both_ways, ltb-true}
use Rattle.quorum.specs.Rules.{Family, Lawful as RuleLawful}
use Rattle.quorum.proofs.Growth.{same_parts}
use Rattle.quorum.proofs.Somes.{some_is}
use Rattle.setup.specs.Orders.{Ordered}
use Rattle.setup.specs.Rows.{among, boxes_with, first}
use Rattle.setup.proofs.Gathering.{with_below}
use Rattle.book.specs.Voting.{Unanimous}
use Rattle.book.proofs.Sameness.{voters_unanimous}
use Rattle.agreement.specs.declared.slips.Slip.{Slip}
use Rattle.agreement.specs.Slips.{Stands}
use Rattle.agreement.proofs.Entries.{field_at, item_there}
use Rattle.agreement.proofs.Forming.{Formed, formed_stands, one_formed, quorum_box}
use Rattle.procedures.specs.Received.{IsBacked, IsUnanimous, backed, own, received, unanimous}
use Rattle.procedures.specs.Laws.Received.{backed_is_backed, first_stands, first_there, heard_entry, sender_sent, sent, sent_sender, stands, unanimous_is_unanimous}

-- a box that hears a quorum receives something
pub own_stands : {V : Type 0} (f : Family) → RuleLawful f → (table : List (Slip V)) → length table ≡ f.boxes → (s : ℕ) → f.quorum s ≡ true → (v : V) × Stands v (received own table s)
own_stands f law table long s quorum =
    let at = quorum_box f law s quorum in
    let there = item_there table at.0 (subst (λ (m : ℕ). at.0 < m) (sym long) at.2) in
    (there.0.own, (at.0, heard_entry (map own table) s at.0 at.1 ∙ field_at own table at.0 there.0 there.1))

module _ {V : Type 0} {before : V → V → Bool} (o : Ordered before) where
  -- where v is backed, and no other, it is found
  pub backed_only : (f : Family) (others : ℕ) (v : V) (row : List (Option V)) → Stands v row → f.quorum (bit_or (boxes_with before v row) others) ≡ true
      → ((w : V) → Stands w row → f.quorum (bit_or (boxes_with before w row) others) ≡ true → w ≡ v) → backed f before others row ≡ Some v
  backed_only f others v row stood quorum only = go (backed f before others row) (backed_is_backed o f others row)
    where
      go : (x : Option V) → IsBacked f before others row x → x ≡ Some v
      go None none = absurd (both_ways _ (none v stood) quorum)
      go (Some w) is = ap {B = Option V} Some (only w is.0 is.1)

  -- without others v is backed exactly if its senders are a quorum
  pub backed_senders : (f : Family) (v : V) (row : List (Option V)) → backed f before 0 row ≡ Some v → f.quorum (boxes_with before v row) ≡ true
  backed_senders f v row e = sym (ap f.quorum (or_zero_r (boxes_with before v row))) ∙ (subst (IsBacked f before 0 row) e (backed_is_backed o f 0 row)).1

  pub senders_backed : (f : Family) → RuleLawful f → (v : V) (row : List (Option V)) → f.quorum (boxes_with before v row) ≡ true → backed f before 0 row ≡ Some v
  senders_backed f law v row quorum =
      backed_only f 0 v row (formed_stands f law v row (formed v quorum)) (alone v ∙ quorum) (λ w stood too. one_formed f law w v row (formed w (sym (alone w) ∙ too)) (formed v quorum))
    where
      alone : (w : V) → f.quorum (bit_or (boxes_with before w row) 0) ≡ f.quorum (boxes_with before w row)
      alone w = ap f.quorum (or_zero_r (boxes_with before w row))

      formed : (w : V) → f.quorum (boxes_with before w row) ≡ true → Formed f w row
      formed w h = (boxes_with before w row, h, voters_unanimous o w row)

  -- so what is backed a quorum sent
  pub backed_formed : (f : Family) (row : List (Option V)) (s : ℕ) (w : V) → backed f before 0 (among row s) ≡ Some w → Formed f w row
  backed_formed f row s w e = (boxes_with before w (among row s), backed_senders f w (among row s) e, λ i member. (sender_sent o w row s i member).1)

  -- ---- where all of a quorum that was heard sent v

  module _ (f : Family) (law : RuleLawful f) (v : V) (row : List (Option V)) (s : ℕ) (quorum : f.quorum s ≡ true) (all : Unanimous s v row) where
    -- it was received, and no other was
    all_stands : Stands v (among row s)
    all_stands = let at = quorum_box f law s quorum in stands o v row s at.0 at.1 (all at.0 at.1)

    pub all_only : (w : V) → Stands w (among row s) → w ≡ v
    all_only w stood = let by = sent row s stood.0 w stood.1 in some_is (sym by.1 ∙ all stood.0 by.0)

    -- so it is the smallest received
    pub first_all : first before (among row s) ≡ Some v
    first_all =
        let is = first_there o (among row s) v all_stands in is.1 ∙ ap {B = Option V} Some (all_only is.0 (first_stands o (among row s) is.0 is.1))

    -- its senders are all that were heard
    senders_all : boxes_with before v (among row s) ≡ s
    senders_all =
        same_parts (length (among row s) + f.boxes) _ s
        (lt_of_lt_of_le (with_below before v (among row s)) (pow_mono (omega arith)))
        (lt_of_lt_of_le (ltb-true s (2 ^ f.boxes) (law.inside s quorum)) (pow_mono (omega arith)))
        (λ i h. (sender_sent o v row s i h).0)
        (λ i h. sent_sender o v row s i h (all i h))

    -- and it is unanimous, and backed
    pub unanimous_all : unanimous before s (among row s) ≡ Some v
    unanimous_all = go (unanimous before s (among row s)) (unanimous_is_unanimous o s row)
      where
        go : (x : Option V) → IsUnanimous before s (among row s) x → x ≡ Some v
        go None none = absurd (none v all_stands senders_all)
        go (Some w) is = ap {B = Option V} Some (all_only w is.0)

    pub backed_all : backed f before 0 (among row s) ≡ Some v
    backed_all = senders_backed f law v (among row s) (ap f.quorum senders_all ∙ quorum)
