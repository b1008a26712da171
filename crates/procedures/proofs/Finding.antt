-- What is found keeps the law of what is sought. Assumes nothing.
use Rattle.std.proofs.Common.{◌≡◌, ℕ, Bool, true, false, cond, not, ◌&&◌, ◌==◌, ◌⊎◌, List, length, Some, None, Option, sym, refl, ap, ◌∙◌, subst, inl, inr, arith, lit<}
use Rattle.std.specs.Bool.{then_some}
use Rattle.std.specs.Option.{option_and_then}
use Rattle.std.proofs.lemmas.Bool.{both_ways, cases_Bool, eqb-false, eqb-true}
use Rattle.quorum.specs.Boxes.{IsLowest}
use Rattle.quorum.specs.Rules.{Family}
use Rattle.quorum.specs.Walking.{Lowest, without}
use Rattle.quorum.specs.Members.{has_past}
use Rattle.quorum.specs.Sets.{has}
use Rattle.quorum.proofs.Somes.{some_is, some_none}
use Rattle.quorum.proofs.Lowest.{lowest_is_lowest}
use Rattle.setup.specs.Orders.{Ordered}
use Rattle.setup.specs.Rows.{among, boxes_with, entry, is}
use Rattle.setup.proofs.Walked.{all_next}
use Rattle.procedures.specs.Laws.Received.{backed_is_backed, heard_entry, most_often_is_most_often, sender_sent, sent, unanimous_is_unanimous, unheard_entry}
use Rattle.procedures.specs.Received.{IsBacked, IsMostOften, IsUnanimous, backed, backer, elects, most_often, senders, unanimous}

module _ {V : Type 0} {before : V → V → Bool} (o : Ordered before) (row : List (Option V)) (heard : ℕ) (x : Option V) where
  pub backed_law : (f : Family) (others : ℕ) → x ≡ backed f before others (among row heard) → IsBacked f before others (among row heard) x
  backed_law f others e = subst (IsBacked f before others (among row heard)) (sym e) (backed_is_backed o f others (among row heard))

  pub unanimous_law : x ≡ unanimous before heard (among row heard) → IsUnanimous before heard (among row heard) x
  unanimous_law e = subst (IsUnanimous before heard (among row heard)) (sym e) (unanimous_is_unanimous o heard row)

-- ---- a unanimous setup

-- some box of the set sent it; where it is none, some box of the set sent nothing, or the set has no box
abbrev SentByOne : {V : Type 0} → ℕ → List (Option V) → Option V → Type 0
SentByOne set row (Some v) = (i : ℕ) × (has set i ≡ true) × (entry row i ≡ Some v)
SentByOne set row None = (set ≡ 0) ⊎ ((i : ℕ) × (has set i ≡ true) × (entry row i ≡ None))

module _ {V : Type 0} {before : V → V → Bool} (o : Ordered before) (row : List (Option V)) (heard : ℕ) where
  abbrev r : List (Option V)
  r = among row heard

  -- where all sent w, each box that was heard did
  each_sent : (w : V) → senders before w r ≡ heard → (i : ℕ) → has heard i ≡ true → entry row i ≡ Some w
  each_sent w all i there = (sender_sent o w row heard i (ap (λ (s : ℕ). has s i) all ∙ there)).1

  -- there is one that is unanimous at most
  one_unanimous : (x y : Option V) → IsUnanimous before heard r x → IsUnanimous before heard r y → x ≡ y
  one_unanimous None None h g = refl
  one_unanimous None (Some w) h g = absurd (h w g.0 g.1)
  one_unanimous (Some v) None h g = absurd (g v h.0 h.1)
  one_unanimous (Some v) (Some w) h g =
      let there = sent row heard h.0.0 v h.0.1 in ap {B = Option V} Some (some_is (sym there.1 ∙ each_sent w g.1 h.0.0 there.0))

  abbrev all_sent : V → Option V
  all_sent v = cond (senders before v r == heard) (Some v) None

  -- what one box sent, if all sent it
  sent_by_all : (y : Option V) → SentByOne heard row y → IsUnanimous before heard r (option_and_then all_sent y)
  sent_by_all None (inl none) = λ w stands all. both_ways (has heard stands.0) (ap (λ (s : ℕ). has s stands.0) none ∙ has_past 0 0 stands.0 (lit< tt) (omega arith)) (sent row heard stands.0 w stands.1).0
  sent_by_all None (inr one) = λ w stands all. some_none (sym (each_sent w all one.0 one.1) ∙ one.2)
  sent_by_all (Some v) one = go (cases_Bool (senders before v r == heard))
    where
      go : ((senders before v r == heard) ≡ true) ⊎ ((senders before v r == heard) ≡ false) → IsUnanimous before heard r (all_sent v)
      go (inl h) = subst (λ (b : Bool). IsUnanimous before heard r (cond b (Some v) None)) (sym h) ((one.0, heard_entry row heard one.0 one.1 ∙ one.2), eqb-true (senders before v r) heard h)
      go (inr h) = subst (λ (b : Bool). IsUnanimous before heard r (cond b (Some v) None)) (sym h) (λ w stands all. eqb-false (senders before v r) heard h (ap (λ (x : V). senders before x r) (some_is (sym one.2 ∙ each_sent w all one.0 one.1)) ∙ all))

  found : (y : Option V) → SentByOne heard row y → option_and_then all_sent y ≡ unanimous before heard r
  found y one = one_unanimous _ _ (sent_by_all y one) (unanimous_is_unanimous o heard row)

  -- nobody was heard
  pub nobody_heard : heard ≡ 0 → None ≡ unanimous before heard r
  nobody_heard none = found None (inl none)

  -- a box was heard that sent nothing
  pub nothing_sent : (i : ℕ) → Lowest heard i → None ≡ entry row i → None ≡ unanimous before heard r
  nothing_sent i low none = found None (inr (i, low.1, sym none))

  where_so : (b : Bool) (v : V) → then_some b v ≡ cond b (Some v) None
  where_so true v = refl
  where_so false v = refl

  -- the lowest box sent v: so the others are asked whether they did
  pub others_asked : (t i : ℕ) (v : V) → Lowest heard i × (t ≡ without heard i) → Some v ≡ entry row i → then_some (boxes_with before v (among row t) == t) v ≡ unanimous before heard r
  others_asked t i v low here =
      let own : is before v (Some v) ≡ true = ap (λ (b : Bool). not b && not b) (o.irreflexive v) in
      where_so (boxes_with before v (among row t) == t) v ∙ ap (λ (b : Bool). cond b (Some v) None) (sym (all_next before v row heard t i (Some v) low here (sym own))) ∙ found (Some v) (i, low.0.1, sym here)

-- what the box sent that was found
pub backed_read : {V : Type 0} (row : List (Option V)) (heard : ℕ) (f : Family) (before : V → V → Bool) (others i : ℕ) (y : Option V) → y ≡ entry row i → backer f before others (among row heard) ≡ Some i → y ≡ backed f before others (among row heard)
backed_read {V} row heard f before others i y read found = read ∙ heard_it (cases_Bool (has heard i)) ∙ sym (ap (option_and_then (entry r)) found)
  where
    r : List (Option V)
    r = among row heard

    elected : elects f before others r (entry r i) ≡ true
    elected = let law = subst (IsLowest (λ m. elects f before others r (entry r m)) (length r)) found (lowest_is_lowest _ (length r)) in law.1

    heard_it : (has heard i ≡ true) ⊎ (has heard i ≡ false) → entry row i ≡ entry r i
    heard_it (inl h) = sym (heard_entry row heard i h)
    heard_it (inr h) = absurd (both_ways false refl (sym (ap (elects f before others r) (unheard_entry row heard i h)) ∙ elected))

pub most_often_law : {V : Type 0} {before : V → V → Bool} → Ordered before → (row : List (Option V)) (x : Option V) → x ≡ most_often before row → IsMostOften before row x
most_often_law {V} {before} o row x e = subst (IsMostOften before row) (sym e) (most_often_is_most_often o row)
