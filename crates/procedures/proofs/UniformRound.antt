-- Observing follows UniformVoting, over every kind of setup. Assumes nothing.
use Rattle.std.specs.Prelude.{◌≡◌, ℕ, zero, suc, ◌^◌, ◌<◌, Bool, true, List, length, map, Some, None, Option, unwrap_or, ◌*◌, nat_lt}
use Rattle.std.specs.Option.{option_or}
use Rattle.std.proofs.Common.{sym, refl, ap, subst, ◌∙◌}
use Rattle.std.proofs.lemmas.Bool.{lt-ltb, ltb-true}
use Rattle.quorum.specs.Families.{majority}
use Rattle.quorum.specs.Rules.{Family, Lawful as RuleLawful}
use Rattle.quorum.specs.Sets.{within}
use Rattle.setup.specs.Orders.{Ordered}
use Rattle.setup.specs.Rows.{first}
use Rattle.agreement.specs.declared.slips.Slip.{Slip}
use Rattle.agreement.specs.Slips.{Stands}
use Rattle.procedures.specs.Observing.{next, observed, readied}
use Rattle.procedures.specs.Published.Messages.{AllEqual, Smallest, messages}
use Rattle.procedures.specs.Published.UniformVoting.{Agreeing, Deciding, Follows, Round, candidates as candidates_of, process}
use Rattle.procedures.specs.Received.{own, received, say, unanimous}
use Rattle.procedures.specs.Laws.Received.{there_is_none, unanimous_sent}
use Rattle.procedures.specs.Laws.Sent.{own_stands, unanimous_all}
use Rattle.procedures.proofs.Enough.{enough_heard}
use Rattle.procedures.proofs.Messaging.{equal_unanimous, map_messages, no_first, smallest_reached, smallest_taken, some_first, stands_reached, unanimous_equal}

module _ {V : Type 0} {before : V → V → Bool} (o : Ordered before) (f : Family) (law : RuleLawful f) (slip : Slip V) (heard : ℕ) (table : List (Slip V)) (long : length table ≡ f.boxes)
    (quorum : f.quorum heard ≡ true) where
  -- the boxes that were heard are in the table
  small : heard < 2 ^ f.boxes
  small = ltb-true heard (2 ^ f.boxes) (law.inside heard quorum)

  -- so it stands for the smallest candidate
  smallest : Smallest before (messages own table heard 0) (unwrap_or (first before (received own table heard)) slip.own)
  smallest =
      let stood = own_stands f law table long heard quorum in smallest_taken o own table heard stood.0 slip.own (stands_reached own stood.0 table heard stood.1)

  -- what all that reaches it equals is unanimous, and where there is no such value nothing is
  module _ (field : Slip V → Option V) where
    equal : (v : V) → AllEqual v (messages field table heard 0) → unanimous before heard (received field table heard) ≡ Some v
    equal v all =
        unanimous_all o f law v (map field table) heard quorum (equal_unanimous field v table heard (subst (λ (n : ℕ). heard < 2 ^ n) (sym long) small) all)

    unequal : ((v : V) → AllEqual v (messages field table heard 0) → ⊥) → unanimous before heard (received field table heard) ≡ None
    unequal differ = there_is_none (unanimous before heard (received field table heard)) (λ v e. differ v (unanimous_equal field v table heard (unanimous_sent o heard (map field table) v e)))

  agreeing : Agreeing before (messages own table heard 0) (process slip) (process (readied before heard (received own table heard) slip))
  agreeing = record { candidate = smallest; agrees = equal own; differs = unequal own; decision = refl }

  -- the candidates and the agreed votes that reach it
  abbrev pairs : List (V × Option V)
  pairs = messages (λ s. (s.own, s.say)) table heard 0

  candidates : map (λ m. Some m.0) pairs ≡ messages own table heard 0
  candidates = map_messages (λ m. Some m.0) (λ s. (s.own, s.say)) table heard 0

  votes : map (λ m. m.1) pairs ≡ messages say table heard 0
  votes = map_messages (λ m. m.1) (λ s. (s.own, s.say)) table heard 0

  -- what it stands for, by the first of the agreed votes
  abbrev stands_for : Option V → V
  stands_for x = unwrap_or (option_or x (first before (received own table heard))) slip.own

  deciding : Deciding before pairs (process slip) (process (observed before heard (received say table heard) (received own table heard) slip))
  deciding = record {
    observes = λ v stood.
        let found = some_first o say table heard v (subst (Stands v) votes stood) in
        subst (λ (l : List (Option V)). Stands (stands_for (first before (received say table heard))) l) (sym votes)
        (subst (λ (x : Option V). Stands (stands_for x) (messages say table heard 0)) (sym found.1) (smallest_reached o say table heard found.0 found.1).was_received);
    otherwise = λ none.
        let nothing = no_first o say table heard (λ v stood. none v (subst (Stands v) (sym votes) stood)) in
        subst (λ (l : List (Option V)). Smallest before l (stands_for (first before (received say table heard)))) (sym candidates)
        (subst (λ (x : Option V). Smallest before (messages own table heard 0) (stands_for x)) (sym nothing) smallest);
    decides = λ v all. ap (λ (x : Option V). option_or x slip.held) (equal say v (subst (AllEqual v) votes all));
    waits = λ differ. ap (λ (x : Option V). option_or x slip.held) (unequal say (λ v all. differ v (subst (AllEqual v) (sym votes) all)));
    agreed_vote = refl;
  }

pub follows_uniform : {V : Type 0} {before : V → V → Bool} (o : Ordered before) (f : Family) (law : RuleLawful f) (b : ℕ) (slip new : Slip V) (heard : ℕ) (table : List (Slip V))
    → new ≡ next before b heard table slip → Follows before f b slip heard table new
follows_uniform {V} {before} o f law b slip new heard table made = subst (Follows before f b slip heard table) (sym made) (record {
  begins = λ v. refl;
  round = λ counts long inside more. go b long (heard_more counts long inside ∙ lt-ltb f.boxes _ more);
  of_any_rule = λ long quorum. go b long quorum;
})
  where
    -- to have heard more than half is to have heard a quorum
    heard_more : ((s : ℕ) → f.quorum s ≡ (majority f.boxes).quorum s) → length table ≡ f.boxes → within f.boxes heard ≡ true → f.quorum heard ≡ nat_lt f.boxes (2 * length (candidates_of table heard))
    heard_more counts long inside = enough_heard o f law (λ k. nat_lt f.boxes (2 * k)) counts table long heard own inside

    go : (b : ℕ) → length table ≡ f.boxes → f.quorum heard ≡ true → Round before b slip heard table (next before b heard table slip)
    go zero = agreeing o f law slip heard table
    go (suc zero) = deciding o f law slip heard table
    go (suc (suc b)) = λ long quorum. tt
