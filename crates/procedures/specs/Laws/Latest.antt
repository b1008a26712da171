-- Latest keeps the laws, over every rule and kind of setup. Assumes nothing.
use Rattle.std.specs.Prelude.{◌≡◌, ℕ, zero, suc, ◌+◌, ◌<◌, Bool, true, cond, List, length, map, Some, None, Option}
use Rattle.std.specs.Option.{option_map, option_or, unwrap_or}
use Rattle.std.proofs.Common.{ap, ◌∙◌, refl, arith}
use Rattle.std.proofs.lemmas.Bool.{cond-true}
use Rattle.quorum.specs.Rules.{Family, Lawful as RuleLawful}
use Rattle.setup.specs.Orders.{Ordered}
use Rattle.setup.specs.Rows.{first}
use Rattle.agreement.specs.declared.slips.Slip.{Slip}
use Rattle.agreement.specs.Laws.{Alike, AllHold, Lawful, OneClear, Read}
use Rattle.agreement.specs.Protocols.{Protocol, beaten, within_phase}
use Rattle.agreement.specs.Slips.{Stands, setups_of_slip, turned}
use Rattle.agreement.proofs.Entries.{at_pick}
use Rattle.agreement.proofs.Every.{EachHeard, Every, all_hold, any_slips, each_clear, every_clear, every_sent, start, start_length}
use Rattle.agreement.proofs.Forming.{formed_stands, one_formed}
use Rattle.procedures.specs.Latest.{latest, latest_vote, next, readied}
use Rattle.procedures.specs.Received.{backed, dated, own, pick, received, say}
use Rattle.procedures.specs.Laws.Reading.{found_read, taken_read}
use Rattle.procedures.specs.Laws.Received.{backed_alike, backed_stands, dates, first_is_alike, first_there}
use Rattle.procedures.specs.Laws.Sent.{backed_all, backed_formed, own_stands}
use Rattle.procedures.specs.Laws.ThreeBeats.{ThreeBeats, all_say, all_vote, latest_picks, picking_reads, readied_reads, three_guards, voted_reads}

module _ {V : Type 0} {before : V → V → Bool} (o : Ordered before) (f : Family) (law : RuleLawful f) where
  abbrev p : Protocol V
  p = latest before f

  abbrev n : ℕ
  n = f.boxes

  -- a box is ready to vote for what a quorum picked
  abbrev ready : ℕ → ℕ → List (Slip V) → Option V
  ready k s table = backed f before 0 (received pick table s)

  three_beats : ThreeBeats before p ready
  three_beats = record {
    three = refl;
    picks = λ k i s slip table w e. latest_picks o f s table _ slip w e;
    keeps = λ k i s slip table. refl;
    readies = λ k i s slip table. refl;
    picked = λ k s table w e. formed_stands f law w (map pick table) (backed_formed o f (map pick table) s w e);
    one = λ k s t heard table v w e d.
        let picks = map pick (beaten p k 0 heard table) in
        one_formed f law v w picks (backed_formed o f picks s v e) (backed_formed o f picks t w d);
    votes = λ k i s slip table. refl;
  }

  -- ---- one slip

  module _ (k s : ℕ) (slip : Slip V) (table : List (Slip V)) where
    -- every setup of a new slip stood in a slip that it read
    next_reads : (b : ℕ) (v : V) → Stands v (setups_of_slip (next f before k b s table slip)) → Read slip s table v
    next_reads zero = picking_reads o f k s slip table _ (taken_read slip s table o)
    next_reads (suc zero) =
        readied_reads o f k s slip table (ready k s table) (found_read slip s table pick at_pick (λ x. refl) (ready k s table) (backed_stands o f 0 (received pick table s)))
    next_reads (suc (suc b)) = voted_reads o f k s slip table

    -- held becomes news
    next_held : (b : ℕ) → (next f before k b s table slip).held ≡ option_or (next f before k b s table slip).news slip.held
    next_held zero = refl
    next_held (suc zero) = refl
    next_held (suc (suc b)) = refl

    -- beat 0 and beat 1 cast nothing and have no news
    quiet : (b : ℕ) → b + 1 < 3 → ((next f before k b s table slip).cast ≡ None) × ((next f before k b s table slip).news ≡ None)
    quiet zero lt = (refl, refl)
    quiet (suc zero) lt = (refl, refl)
    quiet (suc (suc b)) lt = absurd (omega arith)

  -- a new slip depends on the slips that were heard only
  next_alike : (k b s : ℕ) (slip : Slip V) (t u : List (Slip V)) → Alike s t u → next f before k b s t slip ≡ next f before k b s u slip
  next_alike k zero s slip t u same =
      let firsts = first_is_alike o own t u s same in
      let votes = first_is_alike (dates o) dated t u s same in
      λ i. let v = unwrap_or (firsts i) slip.own in record (turned None None slip) { own = v; pick = cond (f.quorum s) (Some (unwrap_or (option_map (λ d. d.1) (votes i)) v)) None }
  next_alike k (suc zero) s slip t u same = ap (λ (r : Option V). readied k r slip) (backed_alike o pick t u s same f 0)
  next_alike k (suc (suc b)) s slip t u same = ap (λ (r : Option V). turned slip.say r slip) (backed_alike o say t u s same f 0)

  -- ---- a phase, from the table that it finds

  module _ (k : ℕ) (heard : ℕ → ℕ → List ℕ) (table : List (Slip V)) (long : length table ≡ n) where
    -- where in beat 0 all hear one quorum, all pick one setup
    all_pick : OneClear p k 0 (heard k 0) → (x : V) × Every n (λ slip. slip.pick ≡ Some x) (within_phase p heard k 1 table)
    all_pick one = (pick_for smallest.0, every_clear p k 0 (heard k 0) table (λ slip. slip.pick ≡ Some (pick_for smallest.0)) (any_slips table long) one each)
      where
        smallest : (v : V) × (first before (received own table one.0) ≡ Some v)
        smallest = let stood = own_stands f law table long one.0 one.1 in first_there o (received own table one.0) stood.0 stood.1

        pick_for : V → V
        pick_for v = unwrap_or (latest_vote before (received dated table one.0)) v

        each : (i : ℕ) (old : Slip V) → Unit {0} → pick (p.next k 0 i old one.0 table) ≡ Some (pick_for smallest.0)
        each i old x = cond-true (f.quorum one.0) _ None one.1 ∙ ap {B = Option V} (λ (r : Option V). Some (pick_for (unwrap_or r old.own))) smallest.1

    -- where all picked x, a box that hears a quorum is ready to vote for x
    all_ready : (x : V) → Every n (λ slip. slip.pick ≡ Some x) (within_phase p heard k 1 table) → (s : ℕ) → f.quorum s ≡ true → ready k s (within_phase p heard k 1 table) ≡ Some x
    all_ready x all s quorum = backed_all o f law x _ s quorum (every_sent all pick x (λ slip e. e) s (law.inside s quorum))

    -- so where each hears a quorum in the two other beats, all say it, and hold it: one such phase is enough
    settled : OneClear p k 0 (heard k 0) → EachHeard n (λ s. f.quorum s ≡ true) (heard k 1) → EachHeard n (λ s. f.quorum s ≡ true) (heard k 2) → AllHold n (within_phase p heard k 3 table)
    settled one hears_picks hears_says =
        let picks = all_pick one in
        let says = all_say o p law ready three_beats k heard table picks.0 hears_picks picks.1 (all_ready picks.0 picks.1) in
        all_hold picks.0 _ (all_vote o p law ready three_beats k heard table picks.0 hears_says says)

  pub latest_lawful : Lawful p
  latest_lawful = record {
    ruled = law;
    some_beats = omega arith;
    few_beats = omega arith;
    inside = λ k b s h. law.inside s h;
    admitted = λ k b s le lt h. refl;
    whole = λ k b le lt. law.whole;
    origin = λ k b i s slip table v due. next_reads k s slip table b v;
    alone = λ k b i s slip t u due. next_alike k b s slip t u;
    follows = λ k b i s slip table due. next_held k s slip table b;
    quiet_cast = λ k b i s slip table due lt. (quiet k s slip table b lt).0;
    quiet_news = λ k b i s slip table due lt. (quiet k s slip table b lt).1;
    votes = λ proposals heard k c. three_guards o p law ready three_beats proposals heard k;
    settles = λ proposals heard k c one two.
        settled (suc k) heard (start p proposals heard (suc k)) (start_length p proposals heard c.proposed (suc k)) (two 0 (omega arith)) (each_clear p (suc k) 1 (heard (suc k) 1) (two 1 (omega arith)))
        (each_clear p (suc k) 2 (heard (suc k) 2) (two 2 (omega arith)));
  }
