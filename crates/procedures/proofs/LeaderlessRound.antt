-- Latest follows the leaderless algorithm of most recent votes, over every kind of setup. Assumes nothing.
use Rattle.std.specs.Prelude.{◌≡◌, ℕ, zero, suc, ◌*◌, ◌<◌, ◌≤◌, Bool, true, List, [], ◌∷◌, length, map, Some, None, Option, ◌≢◌, nat_lt}
use Rattle.std.specs.Option.{option_map, option_or, unwrap_or}
use Rattle.std.proofs.Common.{sym, refl, ap, ◌∙◌, subst}
use Rattle.std.proofs.lemmas.Bool.{cond-false, cond-true, le-ltb, lt-ltb, ltb-false, or_parts}
use Rattle.quorum.specs.Families.{majority}
use Rattle.quorum.specs.Rules.{Family, Lawful as RuleLawful}
use Rattle.quorum.specs.Sets.{within}
use Rattle.quorum.proofs.Somes.{some_none}
use Rattle.setup.specs.Kinds.{dated_before}
use Rattle.setup.specs.Orders.{Ordered}
use Rattle.setup.specs.Rows.{entry, first}
use Rattle.agreement.specs.declared.slips.Slip.{Slip}
use Rattle.agreement.specs.Slips.{Stands}
use Rattle.procedures.specs.Latest.{next, picked, readied, voted}
use Rattle.procedures.specs.Published.Messages.{Smallest, messages, times}
use Rattle.procedures.specs.Published.LeaderlessVoting.{Agreeing, Finding, Follows, MostRecent, Round, Voting, process}
use Rattle.procedures.specs.Received.{backed, dated, own, pick, received, say}
use Rattle.procedures.specs.Laws.Received.{dates}
use Rattle.procedures.proofs.Enough.{backed_often, backed_seldom, enough_heard}
use Rattle.procedures.proofs.Messaging.{map_messages, no_first, smallest_reached, smallest_taken, some_first}

module _ {V : Type 0} {before : V → V → Bool} (o : Ordered before) (f : Family) (law : RuleLawful f) (slip : Slip V) (heard : ℕ) (table : List (Slip V))
    (counts : (s : ℕ) → f.quorum s ≡ (majority f.boxes).quorum s) (long : length table ≡ f.boxes) where
  abbrev n : ℕ
  n = f.boxes

  -- so many are more than half
  abbrev most : ℕ → Bool
  most c = nat_lt n (2 * c)

  -- ---- the first round

  -- the most recent votes and the proposals that reach it
  abbrev pairs : List (Option (ℕ × V) × V)
  pairs = messages (λ s. (s.dated, s.own)) table heard 0

  proposals : map (λ m. Some m.1) pairs ≡ messages own table heard 0
  proposals = map_messages (λ m. Some m.1) (λ s. (s.dated, s.own)) table heard 0

  votes : map (λ m. m.0) pairs ≡ messages dated table heard 0
  votes = map_messages (λ m. m.0) (λ s. (s.dated, s.own)) table heard 0

  -- what it stands for, by the first of the proposals
  abbrev stands_for : Option V → V
  stands_for x = unwrap_or x slip.own

  -- so that is the smallest, where one reached it, and else its own
  proposes : pairs ≢ [] → Smallest before (map (λ m. Some m.1) pairs) (stands_for (first before (received own table heard)))
  proposes some = go pairs refl
    where
      go : (l : List (Option (ℕ × V) × V)) → pairs ≡ l → Smallest before (map (λ m. Some m.1) pairs) (stands_for (first before (received own table heard)))
      go [] e = absurd (some e)
      go (m ∷ l) e =
          let stood : Stands m.1 (map (λ m. Some m.1) pairs) = (0, ap (λ (r : List (Option (ℕ × V) × V)). entry (map (λ m. Some m.1) r) 0) e) in
          subst (λ (r : List (Option V)). Smallest before r (stands_for (first before (received own table heard)))) (sym proposals)
          (smallest_taken o own table heard m.1 slip.own (subst (Stands m.1) proposals stood))

  alone : pairs ≡ [] → stands_for (first before (received own table heard)) ≡ slip.own
  alone none =
      ap stands_for
      (no_first o own table heard
      (λ v stood. let at = subst (Stands v) (sym proposals ∙ ap (map (λ m. Some m.1)) none) stood in some_none (sym at.1)))

  -- the first of the dated votes is a most recent one
  recent : (d : ℕ × V) → first (dated_before before) (received dated table heard) ≡ Some d → MostRecent (map (λ m. m.0) pairs) d
  recent d e =
      let smallest = smallest_reached (dates o) dated table heard d e in
      subst (λ (r : List (Option (ℕ × V))). MostRecent r d) (sym votes)
      (record { was_received = smallest.was_received; newest = λ w stood. ltb-false d.0 w.0 (or_parts _ _ (smallest.least w stood)).0 })

  -- its candidate, if it heard a majority, by the first of the dated votes
  abbrev candidate : Option (ℕ × V) → V
  candidate x = unwrap_or (option_map (λ d. d.1) x) (stands_for (first before (received own table heard)))

  -- its slip after the round
  abbrev found_slip : Slip V
  found_slip = picked f before heard (received own table heard) (received dated table heard) slip

  module _ (inside : within n heard ≡ true) where
    -- a set is a majority exactly if so many reach it
    many : n < 2 * length pairs → pick found_slip ≡ Some (candidate (first (dated_before before) (received dated table heard)))
    many lt = cond-true (f.quorum heard) _ None (enough_heard o f law most counts table long heard _ inside ∙ lt-ltb n (2 * length pairs) lt)

    few : 2 * length pairs ≤ n → pick found_slip ≡ None
    few le = cond-false (f.quorum heard) _ None (enough_heard o f law most counts table long heard _ inside ∙ le-ltb n (2 * length pairs) le)

    finding : Finding before n pairs (process slip) (process found_slip)
    finding = record {
      proposes = proposes;
      alone = alone;
      recent = λ lt e stood.
          let found = some_first (dates o) dated table heard e (subst (Stands e) votes stood) in
          (found.0, recent found.0 found.1, many lt ∙ ap {B = Option V} (λ (x : Option (ℕ × V)). Some (candidate x)) found.1);
      fresh = λ lt none.
          many lt ∙ ap {B = Option V} (λ (x : Option (ℕ × V)). Some (candidate x)) (no_first (dates o) dated table heard (λ e stood. none e (subst (Stands e) (sym votes) stood)));
      few = few;
      mru_vote = refl;
      agreed_vote = refl;
      decision = refl;
    }

  -- ---- the others

  -- a value that reached it more than n/2 times a quorum sent, and where there is none a quorum sent none
  module _ (field : Slip V → Option V) where
    by_most : (v : V) → n < 2 * times before v (messages field table heard 0) → backed f before 0 (received field table heard) ≡ Some v
    by_most v lt = backed_often o f law most counts table long heard field v (lt-ltb n (2 * times before v (messages field table heard 0)) lt)

    by_none : ((v : V) → 2 * times before v (messages field table heard 0) ≤ n) → backed f before 0 (received field table heard) ≡ None
    by_none seldom = backed_seldom o f law most counts table long heard field (λ v. le-ltb n (2 * times before v (messages field table heard 0)) (seldom v))

  agreeing : (k : ℕ) → Agreeing before n k (messages pick table heard 0) (process slip) (process (readied k (backed f before 0 (received pick table heard)) slip))
  agreeing k = record {
    agrees = λ v lt. let is = by_most pick v lt in (ap redated is, is);
    differs = λ seldom. let is = by_none pick seldom in (ap redated is, is);
    prop = refl;
    cand = refl;
    decision = refl;
  }
    where
      redated : Option V → Option (ℕ × V)
      redated x = option_or (option_map (λ v. (k, v)) x) slip.dated

  voting : Voting before n (messages say table heard 0) (process slip) (process (voted f before (received say table heard) slip))
  voting = record {
    decides = λ v lt. ap (λ (x : Option V). option_or x slip.held) (by_most say v lt);
    waits = λ seldom. ap (λ (x : Option V). option_or x slip.held) (by_none say seldom);
    prop = refl;
    mru_vote = refl;
    cand = refl;
    agreed_vote = refl;
  }

pub follows_leaderless : {V : Type 0} {before : V → V → Bool} (o : Ordered before) (f : Family) (law : RuleLawful f) (k b : ℕ) (slip new : Slip V) (heard : ℕ) (table : List (Slip V))
    → new ≡ next f before k b heard table slip → Follows before f k b slip heard table new
follows_leaderless {V} {before} o f law k b slip new heard table made = subst (Follows before f k b slip heard table) (sym made) (record { begins = λ v. refl; round = λ counts long inside. go b counts long inside })
  where
    go : (b : ℕ) → ((s : ℕ) → f.quorum s ≡ (majority f.boxes).quorum s) → length table ≡ f.boxes → within f.boxes heard ≡ true → Round before f.boxes k b slip heard table (next f before k b heard table slip)
    go zero counts long inside = finding o f law slip heard table counts long inside
    go (suc zero) counts long inside = agreeing o f law slip heard table counts long k
    go (suc (suc zero)) counts long inside = voting o f law slip heard table counts long
    go (suc (suc (suc b))) counts long inside = tt
