-- Unison keeps the laws, over every rule and kind of setup. Assumes nothing.
use Rattle.std.specs.Prelude.{◌≡◌, ℕ, suc, ◌<◌, ◌≤◌, Bool, true, List, length, Some, Option, unwrap_or}
use Rattle.std.proofs.Common.{sym, ap, ◌∙◌, refl, subst, arith}
use Rattle.std.proofs.lemmas.List.{length-map}
use Rattle.std.proofs.lemmas.Bool.{eq-eqb, eqb-true}
use Rattle.quorum.specs.Rules.{Family, Lawful as RuleLawful}
use Rattle.quorum.specs.Sets.{everyone, within}
use Rattle.quorum.proofs.Somes.{some_is}
use Rattle.setup.specs.Orders.{Ordered}
use Rattle.setup.specs.Rows.{entry, first}
use Rattle.book.specs.Voting.{Backed, Guards, Loyal}
use Rattle.agreement.specs.declared.slips.Slip.{Slip}
use Rattle.agreement.specs.Laws.{Alike, AllAdmitted, AllHold, Course, Lawful, Read, ended}
use Rattle.agreement.specs.Protocols.{Protocol, beaten}
use Rattle.agreement.specs.Slips.{Stands, casts, news, opened, setups_of_slip}
use Rattle.agreement.proofs.Entries.{at_dated, at_pick, at_say}
use Rattle.agreement.proofs.Every.{Every, any_slips, every_beaten, every_entry, every_field, every_sent, from_then, start}
use Rattle.procedures.specs.Received.{own, received}
use Rattle.procedures.specs.Laws.Reading.{Reads, So, had, new_reads, taken_read}
use Rattle.procedures.specs.Laws.Received.{first_is_alike, first_there}
use Rattle.procedures.specs.Laws.Sent.{first_all, own_stands}
use Rattle.trials.specs.Unison.{agreed, unison}

module _ {V : Type 0} {before : V → V → Bool} (o : Ordered before) (f : Family) (law : RuleLawful f) where
  abbrev p : Protocol V
  p = unison before f

  abbrev n : ℕ
  n = f.boxes

  abbrev all : ℕ
  all = everyone n

  -- what a box takes
  abbrev taken : ℕ → List (Slip V) → Slip V → V
  taken s table slip = unwrap_or (first before (received own table s)) slip.own

  -- ---- one slip

  -- every setup of a new slip stood in a slip that it read
  agreed_reads : (slip : Slip V) (s : ℕ) (table : List (Slip V)) (v : V) → Stands v (setups_of_slip (agreed (taken s table slip) slip)) → Read slip s table v
  agreed_reads slip s table = new_reads slip s table (agreed (taken s table slip) slip) (taken_read slip s table o) (read at_pick) (read at_say) takes takes refl (read at_dated)
    where
      read : (i : ℕ) → So (Reads slip s table) (entry (setups_of_slip slip) i)
      read = had slip s table

      takes : So (Reads slip s table) (Some (taken s table slip))
      takes v e = subst (Reads slip s table) (some_is e) (taken_read slip s table o)

  -- a new slip depends on the slips that it heard only
  reads_heard : (s : ℕ) (slip : Slip V) (t u : List (Slip V)) → Alike s t u → agreed (taken s t slip) slip ≡ agreed (taken s u slip) slip
  reads_heard s slip t u same = ap (λ (r : Option V). agreed (unwrap_or r slip.own) slip) (first_is_alike o own t u s same)

  -- the slip of a box that has agreed on v
  record Agreed (v : V) (slip : Slip V) : Type 0 where
    stands : slip.own ≡ v
    votes : slip.cast ≡ Some v
    decides : slip.news ≡ Some v
    holds : slip.held ≡ Some v

  -- ---- one beat

  -- all hear all, so they agree on the first setup of the table
  agrees : (k : ℕ) (heard : List ℕ) (table : List (Slip V)) (v : V) → length table ≡ n → AllAdmitted p k 0 heard → first before (received own table all) ≡ Some v
      → Every n (Agreed v) (beaten p k 0 heard table)
  agrees k heard table v long admitted e =
      every_beaten p k 0 heard table (Agreed v) (any_slips table long) (λ s. s ≡ all) (λ i lt. eqb-true _ all (admitted.each i lt).admits)
      (λ i s old whole x. step old (ap (λ (s : ℕ). taken s table old) whole ∙ ap (λ (r : Option V). unwrap_or r old.own) e))
    where
      step : {w : V} (old : Slip V) → w ≡ v → Agreed v (agreed w old)
      step old is = let same = ap {B = Option V} Some is in record { stands = is; votes = same; decides = same; holds = same }

  -- and of a table that has agreed that is what they agreed on
  stays : (v : V) (table : List (Slip V)) → Every n (Agreed v) table → first before (received own table all) ≡ Some v
  stays v table so = first_all o f law v _ all law.whole (every_sent so own v (λ slip a. ap {B = Option V} Some a.stands) all (law.inside all law.whole))

  -- ---- a run

  module _ (proposals : List V) (heard : ℕ → ℕ → List ℕ) (k : ℕ) (c : Course p proposals heard (suc k)) where
    abbrev after : ℕ → List (Slip V)
    after j = ended p proposals heard j

    -- the first of the proposals
    chosen : (v : V) × (first before (received own (opened proposals) all) ≡ Some v)
    chosen =
        let stood = own_stands f law (opened proposals) (simp length-map c.proposed) all law.whole in first_there o (received own (opened proposals) all) stood.0 stood.1

    -- all agree on it in phase 0, and keep to it
    keeps : (j : ℕ) → j ≤ k → Every n (Agreed chosen.0) (after j)
    keeps j le =
        from_then (λ (j : ℕ). Every n (Agreed chosen.0) (start p proposals heard j)) 0 (suc k)
        (agrees 0 (heard 0 0) (opened proposals) chosen.0 (simp length-map c.proposed) (c.admitted 0 0 (omega arith) (omega arith)) chosen.1)
        (λ j late early so. agrees j (heard j 0) (start p proposals heard j) chosen.0 so.count (c.admitted j 0 early (omega arith)) (stays chosen.0 (start p proposals heard j) so))
        (suc j) (omega arith) (omega arith)

    -- no box votes for another, nor has another as news
    votes_for : (j : ℕ) → j ≤ k → (i : ℕ) (w : V) → entry (casts (after j)) i ≡ Some w → w ≡ chosen.0
    votes_for j le = every_field (keeps j le) (λ slip. slip.cast) (λ w. w ≡ chosen.0) (λ slip w a e. some_is (sym e ∙ a.votes))

    has_news : (i : ℕ) (w : V) → entry (news (after k)) i ≡ Some w → w ≡ chosen.0
    has_news = every_field (keeps k (omega arith)) (λ slip. slip.news) (λ w. w ≡ chosen.0) (λ slip w a e. some_is (sym e ∙ a.decides))

    -- so the casts and news of each phase meet both guards
    guards : Guards f (λ j. casts (after j)) k (casts (after k)) (news (after k))
    guards = (loyal, backed)
      where
        loyal : (r : ℕ) → r < k → Loyal f (casts (after r)) (casts (after k))
        loyal r lt q i v w quorum voted member now = votes_for k (omega arith) i w now ∙ sym (votes_for r (omega arith) i v (voted i member))

        backed : Backed f (casts (after k)) (news (after k))
        backed i w e =
            (all, law.whole, every_sent (keeps k (omega arith)) (λ slip. slip.cast) w (λ slip a. a.votes ∙ ap {B = Option V} Some (sym (has_news i w e))) all (law.inside all law.whole))

    -- after any phase all hold it
    settled : AllHold n (after k)
    settled i lt = (chosen.0, every_entry (keeps k (omega arith)) (λ slip. slip.held) chosen.0 (λ slip a. a.holds) i lt)

  pub unison_lawful : Lawful p
  unison_lawful = record {
    ruled = law;
    some_beats = omega arith;
    few_beats = omega arith;
    inside = λ k b s h. subst (λ (x : ℕ). within n x ≡ true) (sym (eqb-true s all h)) (law.inside all law.whole);
    admitted = λ k b s le lt h. h;
    whole = λ k b le lt. eq-eqb all all refl;
    origin = λ k b i s slip table v due. agreed_reads slip s table v;
    alone = λ k b i s slip t u due. reads_heard s slip t u;
    follows = λ k b i s slip table due. refl;
    quiet_cast = λ k b i s slip table due lt. absurd (omega arith);
    quiet_news = λ k b i s slip table due lt. absurd (omega arith);
    votes = guards;
    settles = λ proposals heard k c one two. settled proposals heard (suc k) c;
  }
