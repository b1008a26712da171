-- Procedures whose phase is three beats, whoever picks: a box that picks takes the setup of the latest vote that it hears of, what it is then ready for is its dated vote, and it casts that. Assumes nothing.
use Rattle.std.specs.Prelude.{◌≡◌, ℕ, ◌<◌, ◌≤◌, Bool, true, ◌⊎◌, List, map, Some, None, Option, ◌≢◌, slice_index}
use Rattle.std.specs.Option.{option_map, option_or, unwrap_or}
use Rattle.std.proofs.Common.{inl, inr, sym, ap, ◌∙◌, refl, subst, arith}
use Rattle.std.proofs.lemmas.Bool.{cases_lt}
use Rattle.std.proofs.lemmas.Bool.Decides.{nat_tests}
use Rattle.std.proofs.lemmas.Option.{cond_some}
use Rattle.quorum.specs.Rules.{Family, Lawful as RuleLawful}
use Rattle.quorum.proofs.Somes.{some_none}
use Rattle.setup.specs.Kinds.{dated_before}
use Rattle.setup.specs.Orders.{Ordered}
use Rattle.setup.specs.Rows.{IsFirst, among, entry, first}
use Rattle.setup.proofs.Searching.{first_is_first}
use Rattle.book.specs.Voting.{Backed, Guards, Loyal}
use Rattle.agreement.specs.declared.slips.Slip.{Slip}
use Rattle.agreement.specs.Laws.{ended}
use Rattle.agreement.specs.Protocols.{Protocol, beaten, within_phase}
use Rattle.agreement.specs.Slips.{Stands, casts, news, opened, setups_of_slip}
use Rattle.agreement.proofs.Entries.{at_dated, at_pick, at_say, field_from, opened_from}
use Rattle.agreement.proofs.Every.{EachHeard, Every, carried, every_beaten, every_sent, guards_met, joined, new_from, start}
use Rattle.procedures.specs.Latest.{latest_vote, picking, readied, voted}
use Rattle.procedures.specs.Received.{backed, dated, pick, received, say}
use Rattle.procedures.specs.Laws.Chosen.{Late, NoneLater, Past, Phase, Said, redated, said_loyal}
use Rattle.procedures.specs.Laws.Reading.{Reads, So, found_read, had, had_own, map_so, new_reads, none_so, received_read, unwrap_so}
use Rattle.procedures.specs.Laws.Received.{backed_stands, dates, first_stands}
use Rattle.procedures.specs.Laws.Sent.{backed_all, backed_formed}

-- What the beats of such a procedure do, where ready is what a box is ready to vote for, by phase, heard set and table.
pub record ThreeBeats {V : Type 0} (before : V → V → Bool) (p : Protocol V) (ready : ℕ → ℕ → List (Slip V) → Option V) : Type 0 where
  pub three : p.beats ≡ 3
  -- a box that picks w in beat 0 heard a quorum, and no dated vote there is later than all those for w; it keeps its dated vote
  pub picks : (k i s : ℕ) (slip : Slip V) (table : List (Slip V)) (w : V) → (p.next k 0 i slip s table).pick ≡ Some w → (p.rule.quorum s ≡ true) × NoneLater s w (map dated table)
  pub keeps : (k i s : ℕ) (slip : Slip V) (table : List (Slip V)) → (p.next k 0 i slip s table).dated ≡ slip.dated
  -- what a box is ready to vote for in beat 1 was picked, and no box is ready to vote for another
  pub readies : (k i s : ℕ) (slip : Slip V) (table : List (Slip V)) → p.next k 1 i slip s table ≡ readied k (ready k s table) slip
  pub picked : (k s : ℕ) (table : List (Slip V)) (w : V) → ready k s table ≡ Some w → Stands w (map pick table)
  pub one : (k s t : ℕ) (heard : List ℕ) (table : List (Slip V)) (v w : V) → ready k s (beaten p k 0 heard table) ≡ Some v → ready k t (beaten p k 0 heard table) ≡ Some w → v ≡ w
  -- in beat 2 it votes
  pub votes : (k i s : ℕ) (slip : Slip V) (table : List (Slip V)) → p.next k 2 i slip s table ≡ voted p.rule before (received say table s) slip

module _ {V : Type 0} {before : V → V → Bool} (o : Ordered before) where
  -- ---- the latest vote

  -- a dated vote that comes before every other is as late as any
  as_late : (d e : ℕ × V) → (e ≢ d → dated_before before d e ≡ true) → e.0 ≤ d.0
  as_late d e h = go (cases_lt d.0 e.0)
    where
      go : (d.0 < e.0) ⊎ (e.0 ≤ d.0) → e.0 ≤ d.0
      go (inl lt) = let sooner = h (λ same. omega (arith, lt, ap (λ (x : ℕ × V). x.0) same)) in absurd (grind (arith, nat_tests, sooner, lt))
      go (inr le) = le

  -- so no dated vote received is later than all those for the setup of the latest
  pub latest_is_late : (votes : List (Option (ℕ × V))) (s : ℕ) (v : V) → NoneLater s (unwrap_or (latest_vote before (among votes s)) v) votes
  latest_is_late votes s v j r w member e = go (first (dated_before before) (among votes s)) (first_is_first (dates o) votes s)
    where
      go : (x : Option (ℕ × V)) → IsFirst (dated_before before) votes s x → (i : ℕ) × Late r (unwrap_or (option_map (λ d. d.1) x) v) votes i
      go None none = absurd (some_none (sym e ∙ none j member))
      go (Some d) is = (is.0.0, (d.0, as_late d (r, w) (is.1 j (r, w) member e), is.0.2))

  -- a box that picks that setup, where it heard a quorum
  pub latest_picks : (f : Family) (s : ℕ) (table : List (Slip V)) (v : V) (slip : Slip V) (w : V) → (picking f before s (received dated table s) v slip).pick ≡ Some w
      → (f.quorum s ≡ true) × NoneLater s w (map dated table)
  latest_picks f s table v slip w e =
      let is = cond_some (f.quorum s) _ w e in (is.0, subst (λ (x : V). NoneLater s x (map dated table)) is.1 (latest_is_late (map dated table) s v))

  -- ---- one slip

  -- every setup of a new slip stood in a slip that it read
  module _ (f : Family) (k s : ℕ) (slip : Slip V) (table : List (Slip V)) where
    pub picking_reads : (v : V) → Reads slip s table v → (w : V) → Stands w (setups_of_slip (picking f before s (received dated table s) v slip)) → Reads slip s table w
    picking_reads v read =
        new_reads slip s table (picking f before s (received dated table s) v slip) read (λ w e. subst (Reads slip s table) (cond_some (f.quorum s) _ w e).1 (unwrap_so (Reads slip s table) votes v of_votes read))
        (had slip s table at_say) (none_so (Reads slip s table)) (none_so (Reads slip s table)) refl (had slip s table at_dated)
      where
        votes : Option V
        votes = latest_vote before (received dated table s)

        of_votes : So (Reads slip s table) votes
        of_votes =
            map_so (Reads slip s table) (λ d. d.1) (first (dated_before before) (received dated table s))
            (λ d e. received_read slip s table dated d d.1 (λ x has_it. (at_dated, ap {B = Option V} (option_map (λ c. c.1)) has_it)) (first_stands (dates o) (received dated table s) d e))

    pub readied_reads : (ready : Option V) → So (Reads slip s table) ready → (w : V) → Stands w (setups_of_slip (readied k ready slip)) → Reads slip s table w
    readied_reads ready read =
        new_reads slip s table (readied k ready slip) (had_own slip s table) (had slip s table at_pick) read (none_so (Reads slip s table)) (none_so (Reads slip s table)) refl (votes ready read)
      where
        votes : (r : Option V) → So (Reads slip s table) r → So (Reads slip s table) (option_map (λ d. d.1) (option_or (option_map (λ v. (k, v)) r) slip.dated))
        votes None read = had slip s table at_dated
        votes (Some v) read = read

    pub voted_reads : (w : V) → Stands w (setups_of_slip (voted f before (received say table s) slip)) → Reads slip s table w
    voted_reads =
        new_reads slip s table (voted f before (received say table s) slip) (had_own slip s table) (had slip s table at_pick) (had slip s table at_say) (had slip s table at_say)
        (found_read slip s table say at_say (λ x. refl) (backed f before 0 (received say table s)) (backed_stands o f 0 (received say table s))) refl (had slip s table at_dated)

  module _ (p : Protocol V) (law : RuleLawful p.rule) (ready : ℕ → ℕ → List (Slip V) → Option V) (beats : ThreeBeats before p ready) where
    abbrev n : ℕ
    n = p.rule.boxes

    -- ---- a phase, from the table that it finds

    module _ (k : ℕ) (heard : ℕ → ℕ → List ℕ) (table : List (Slip V)) where
      -- the table after so many beats
      abbrev beat : ℕ → List (Slip V)
      beat b = within_phase p heard k b table

      -- the picks of its beat 0, and the says of its beat 1
      abbrev picks : List (Option V)
      picks = map pick (beat 1)

      abbrev says : List (Option V)
      says = map say (beat 2)

      -- what was said is cast
      cast_said : casts (beat 3) ≡ says
      cast_said = carried p k 2 (heard k 2) (beat 2) (λ slip. slip.cast) say (λ i s old. ap (λ (slip : Slip V). slip.cast) (beats.votes k i s old (beat 2)))

      -- what a box says it was ready for
      said_ready : (i : ℕ) (w : V) → Said w says i → ready k (slice_index (heard k 1) i) (beat 1) ≡ Some w
      said_ready i w e =
          let new = new_from p k 1 (heard k 1) (beat 1) say i w e in
          sym (ap say (beats.readies k i (slice_index (heard k 1) i) new.0 (beat 1))) ∙ new.2

      -- its dated vote is for what it says, and else the one that it had: beat 0 and beat 2 keep it
      votes_left : (i : ℕ) → entry (map dated (beat 3)) i ≡ redated k (entry says i) (entry (map dated table) i)
      votes_left i =
          ap (λ (row : List (Option (ℕ × V))). entry row i) (carried p k 2 (heard k 2) (beat 2) dated dated (λ j s old. ap dated (beats.votes k j s old (beat 2))))
          ∙ joined p k 1 (heard k 1) (beat 1) dated say dated (redated k) refl
          (λ j s old. let made = beats.readies k j s old (beat 1) in ap dated made ∙ sym (ap (λ (slip : Slip V). redated k slip.say old.dated) made)) i
          ∙ ap (λ (row : List (Option (ℕ × V))). redated k (entry says i) (entry row i)) (carried p k 0 (heard k 0) table dated dated (λ j s old. beats.keeps k j s old table))

      -- so it is a phase, by its rows
      phase_rows : Phase p.rule k (map dated table) picks says (map dated (beat 3))
      phase_rows = record {
        picked = λ i w e.
            let new = new_from p k 0 (heard k 0) table pick i w e in
            let heard_it = beats.picks k i (slice_index (heard k 0) i) new.0 table w new.2 in
            (slice_index (heard k 0) i, heard_it.0, heard_it.1);
        said = λ i w e. beats.picked k (slice_index (heard k 1) i) (beat 1) w (said_ready i w e);
        one_say = λ i j v w e d. beats.one k (slice_index (heard k 1) i) (slice_index (heard k 1) j) (heard k 0) table v w (said_ready i v e) (said_ready j w d);
        votes = votes_left;
      }

      -- what is news, all of a quorum said
      news_backed : Backed p.rule says (news (beat 3))
      news_backed i w e =
          let new = new_from p k 2 (heard k 2) (beat 2) (λ slip. slip.news) i w e in
          let s = slice_index (heard k 2) i in
          backed_formed o p.rule says s w (sym (ap (λ (slip : Slip V). slip.news) (beats.votes k i s new.0 (beat 2))) ∙ new.2)

      -- where each hears a quorum, and in any quorum is ready to vote for x, all say it; and where all said x, and each hears a quorum, all hold it
      pub all_say : {P : Slip V → Type 0} (x : V) → EachHeard n (λ s. p.rule.quorum s ≡ true) (heard k 1) → Every n P (beat 1) → ((s : ℕ) → p.rule.quorum s ≡ true → ready k s (beat 1) ≡ Some x)
          → Every n (λ slip. slip.say ≡ Some x) (beat 2)
      all_say x hears all is =
          every_beaten p k 1 (heard k 1) (beat 1) (λ slip. slip.say ≡ Some x) all (λ s. p.rule.quorum s ≡ true) hears (λ i s old quorum so. ap say (beats.readies k i s old (beat 1)) ∙ is s quorum)

      pub all_vote : (x : V) → EachHeard n (λ s. p.rule.quorum s ≡ true) (heard k 2) → Every n (λ slip. slip.say ≡ Some x) (beat 2) → Every n (λ slip. slip.held ≡ Some x) (beat 3)
      all_vote x hears all =
          every_beaten p k 2 (heard k 2) (beat 2) (λ slip. slip.held ≡ Some x) all (λ s. p.rule.quorum s ≡ true) hears
          (λ i s old quorum so. ap (λ (slip : Slip V). slip.held) (beats.votes k i s old (beat 2))
          ∙ ap (λ (r : Option V). option_or r old.held) (backed_all o p.rule law x says s quorum (every_sent all say x (λ slip e. e) s (law.inside s quorum))))

    -- ---- a run

    module _ (proposals : List V) (heard : ℕ → ℕ → List ℕ) where
      abbrev begun : ℕ → List (Slip V)
      begun = start p proposals heard

      -- a phase ends after three beats
      phase_end : (k : ℕ) → within_phase p heard k 3 (begun k) ≡ ended p proposals heard k
      phase_end k = ap (λ (b : ℕ). within_phase p heard k b (begun k)) (sym beats.three)

      -- there are no dated votes at the opening
      fresh : Past 0 (map dated (begun 0))
      fresh i d e =
          let slip = field_from dated (opened proposals) i d e in
          let is = opened_from proposals i slip.0 slip.1 in
          absurd (some_none (sym slip.2 ∙ ap dated is.2))

      -- what is said in a phase is cast in it; and once a quorum has said a setup, no box says another in a later phase
      abbrev says_in : ℕ → List (Option V)
      says_in k = says k heard (begun k)

      casts_in : (k : ℕ) → casts (ended p proposals heard k) ≡ says_in k
      casts_in k = ap casts (sym (phase_end k)) ∙ cast_said k heard (begun k)

      loyal : (r k : ℕ) → r < k → Loyal p.rule (says_in r) (says_in k)
      loyal =
          said_loyal p.rule law (λ j. map dated (begun j)) (λ j. picks j heard (begun j)) says_in
          (λ j. subst (λ (t : List (Slip V)). Phase p.rule j (map dated (begun j)) (picks j heard (begun j)) (says_in j) (map dated t)) (phase_end j) (phase_rows j heard (begun j))) fresh

      -- the casts and news of each phase meet both guards
      pub three_guards : (k : ℕ) → Guards p.rule (λ j. casts (ended p proposals heard j)) k (casts (ended p proposals heard k)) (news (ended p proposals heard k))
      three_guards k =
          guards_met p proposals heard says_in casts_in k (λ r lt. loyal r k lt) (subst (λ (t : List (Slip V)). Backed p.rule (says_in k) (news t)) (phase_end k) (news_backed k heard (begun k)))
