-- Under a rule that goes by the count, a quorum sent v exactly if v reached a process often enough. Assumes nothing.
use Rattle.std.specs.Prelude.{◌≡◌, ℕ, ◌^◌, ◌<◌, Bool, true, false, ◌&&◌, List, length, map, Some, None, Option}
use Rattle.std.proofs.Common.{sym, ap, ◌∙◌, subst}
use Rattle.std.proofs.lemmas.Bool.{both_ways, ltb-true}
use Rattle.std.proofs.lemmas.List.{length-map}
use Rattle.quorum.specs.Laws.{counted}
use Rattle.quorum.specs.Rules.{Family, Lawful as RuleLawful}
use Rattle.quorum.specs.Sets.{count, within}
use Rattle.setup.specs.Orders.{Ordered}
use Rattle.setup.specs.Rows.{among, boxes_with}
use Rattle.setup.proofs.Gathering.{length_among, with_within}
use Rattle.procedures.specs.Published.Messages.{messages, times}
use Rattle.procedures.specs.Received.{backed}
use Rattle.procedures.specs.Laws.Received.{there_is_none}
use Rattle.procedures.specs.Laws.Sent.{backed_senders, senders_backed}
use Rattle.procedures.proofs.Messaging.{length_messages, times_messages}

module _ {A V : Type 0} {before : V → V → Bool} (o : Ordered before) (f : Family) (law : RuleLawful f) (p : ℕ → Bool) (counts : (s : ℕ) → f.quorum s ≡ counted f.boxes p s) (table : List A)
    (long : length table ≡ f.boxes) (s : ℕ) where
  -- as many as were heard
  pub enough_heard : {B : Type 0} (send : A → B) → within f.boxes s ≡ true → f.quorum s ≡ p (length (messages send table s 0))
  enough_heard send inside =
      counts s
      ∙ ap (λ (b : Bool). b && p (count s)) inside
      ∙ ap p (sym (length_messages send table s (subst (λ (n : ℕ). s < 2 ^ n) (sym long) (ltb-true s (2 ^ f.boxes) inside))))

  module _ (field : A → Option V) where
    abbrev row : List (Option V)
    row = among (map field table) s

    -- the senders of v
    pub enough_sent : (v : V) → f.quorum (boxes_with before v row) ≡ p (times before v (messages field table s 0))
    enough_sent v =
        counts (boxes_with before v row)
        ∙ ap (λ (b : Bool). b && p (count (boxes_with before v row))) (with_within before v row f.boxes (length_among (map field table) s 0 ∙ length-map table field ∙ long))
        ∙ ap p (sym (times_messages before v field table s))

    -- so a value that reached it often enough is the one that a quorum backs, and where there is no such value none is
    pub backed_often : (v : V) → p (times before v (messages field table s 0)) ≡ true → backed f before 0 row ≡ Some v
    backed_often v often = senders_backed o f law v row (enough_sent v ∙ often)

    pub backed_seldom : ((v : V) → p (times before v (messages field table s 0)) ≡ false) → backed f before 0 row ≡ None
    backed_seldom seldom = there_is_none (backed f before 0 row) (λ w e. both_ways (f.quorum (boxes_with before w row)) (enough_sent w ∙ seldom w) (backed_senders o f w row e))
