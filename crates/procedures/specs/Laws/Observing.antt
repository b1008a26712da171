-- Observing keeps the laws, over every rule and kind of setup. Assumes nothing.
use Rattle.std.specs.Prelude.{◌≡◌, ℕ, zero, suc, ◌+◌, ◌<◌, Bool, true, List, map, length, Some, None, Option, unwrap_or, slice_index}
use Rattle.std.specs.Option.{option_or}
use Rattle.std.proofs.Common.{sym, ap, ◌∙◌, refl, subst, arith}
use Rattle.quorum.specs.Rules.{Family, Lawful as RuleLawful}
use Rattle.quorum.proofs.Somes.{some_is}
use Rattle.setup.specs.Orders.{Ordered}
use Rattle.setup.specs.Rows.{among, entry, first}
use Rattle.book.specs.Voting.{Backed, Guards, Loyal, Unanimous}
use Rattle.agreement.specs.declared.slips.Slip.{Slip}
use Rattle.agreement.specs.Laws.{Admitted, Alike, AllAdmitted, AllHold, Course, Lawful, OneClear, Read, ended}
use Rattle.agreement.specs.Protocols.{Protocol, beaten}
use Rattle.agreement.specs.Slips.{Stands, casts, news, setups_of_slip, turned}
use Rattle.agreement.proofs.Entries.{at_dated, at_own, at_pick, at_say, beaten_length, item_inside}
use Rattle.agreement.proofs.Every.{Every, all_hold, any_slips, carried, every_beaten, every_clear, every_field, every_sent, every_so, from_then, guards_met, new_from, start, start_length}
use Rattle.agreement.proofs.Forming.{Formed, formed_stands, one_formed}
use Rattle.procedures.specs.Observing.{next, observed, observing, readied}
use Rattle.procedures.specs.Received.{own, received, say, unanimous}
use Rattle.procedures.specs.Laws.Reading.{Reads, So, first_own_read, found_read, had, had_own, new_reads, none_so, or_so, taken_read, unwrap_so}
use Rattle.procedures.specs.Laws.Received.{first_is_alike, first_stands, first_there, sent, stands, unanimous_alike, unanimous_sent, unanimous_stands}
use Rattle.procedures.specs.Laws.Sent.{all_only, first_all, unanimous_all, own_stands}

module _ {V : Type 0} {before : V → V → Bool} (o : Ordered before) (f : Family) (law : RuleLawful f) where
  abbrev p : Protocol V
  p = observing before f

  abbrev n : ℕ
  n = f.boxes

  -- ---- what is so of a slip

  -- it stands for v
  abbrev Own : V → Slip V → Type 0
  Own v slip = slip.own ≡ v

  -- it stands for v, and is ready to vote for it
  abbrev Ready : V → Slip V → Type 0
  Ready v slip = Own v slip × (slip.say ≡ Some v)

  -- it stands for v, and is ready to vote for nothing else
  abbrev Leans : V → Slip V → Type 0
  Leans v slip = Own v slip × So (λ w. w ≡ v) slip.say

  -- no box has anything but v in the row; so none of them sent another
  abbrev Only : V → List (Option V) → Type 0
  Only v row = (i : ℕ) → So (λ w. w ≡ v) (entry row i)

  only_first : (v : V) (row : List (Option V)) → Only v row → (s : ℕ) → So (λ w. w ≡ v) (first before (among row s))
  only_first v row only s w e = let stood = first_stands o (among row s) w e in only stood.0 w (sent row s stood.0 w stood.1).1

  -- ---- one beat

  module _ (k : ℕ) (heard : List ℕ) (table : List (Slip V)) where
    -- what is unanimous in what a box received, a quorum sent
    unanimous_formed : (b : ℕ) (field former : Slip V → Option V) → ((i s : ℕ) (old : Slip V) → field (p.next k b i old s table) ≡ unanimous before s (received former table s)) → length table ≡ n
        → AllAdmitted p k b heard → (i : ℕ) (w : V) → entry (map field (beaten p k b heard table)) i ≡ Some w → Formed f w (map former table)
    unanimous_formed b field former reads long admitted i w e =
        let new = new_from p k b heard table field i w e in
        let s = slice_index heard i in
        let lt = subst (λ (m : ℕ). i < m) long (item_inside table i new.0 new.1) in
        (s, (admitted.each i lt).admits, unanimous_sent o s (map former table) w (sym (reads i s new.0) ∙ new.2))

    -- beat 0: where all stand for v, all keep to it and are ready to vote for it
    readies : (v : V) → AllAdmitted p k 0 heard → Every n (Own v) table → Every n (Ready v) (beaten p k 0 heard table)
    readies v admitted all = every_beaten p k 0 heard table (Ready v) all (Admitted p k 0) admitted.each step
      where
        step : (i s : ℕ) (old : Slip V) → Admitted p k 0 s → Own v old → Ready v (readied before s (received own table s) old)
        step i s old a e =
            let sent = every_sent all own v (λ slip x. ap {B = Option V} Some x) s a.inside in
            (ap (λ (x : Option V). unwrap_or x old.own) (first_all o f law v (map own table) s a.admits sent), unanimous_all o f law v (map own table) s a.admits sent)

    -- beat 0: where all hear one clear set they come to stand for one setup, and are ready to vote for no other
    leans : length table ≡ n → OneClear p k 0 heard → (v : V) × Every n (Leans v) (beaten p k 0 heard table)
    leans long one = (chosen.0, every_clear p k 0 heard table (Leans chosen.0) (any_slips table long) one (λ i old x. (ap (λ (r : Option V). unwrap_or r old.own) chosen.1, says)))
      where
        owns : List (Option V)
        owns = received own table one.0

        chosen : (v : V) × (first before owns ≡ Some v)
        chosen = let stood = own_stands f law table long one.0 one.1 in first_there o owns stood.0 stood.1

        says : So (λ w. w ≡ chosen.0) (unanimous before one.0 owns)
        says w said = sym (all_only o f law w (map own table) one.0 one.1 (unanimous_sent o one.0 (map own table) w said) chosen.0 (first_stands o owns chosen.0 chosen.1))

    -- beat 1: where all stand for v, and none is ready to vote for another, all keep to it
    moves : (v : V) → Every n (Leans v) table → Every n (Own v) (beaten p k 1 heard table)
    moves v all = every_beaten p k 1 heard table (Own v) all (λ s. Unit {0}) (λ i lt. tt) (λ i s old x leaning. step s old leaning.0)
      where
        step : (s : ℕ) (old : Slip V) → Own v old → Own v (observed before s (received say table s) (received own table s) old)
        step s old =
            let says = received say table s in
            let owns = received own table s in
            unwrap_so (λ w. w ≡ v) (option_or (first before says) (first before owns)) old.own
            (or_so (λ w. w ≡ v) (first before says) (first before owns) (only_first v (map say table) (every_field all say (λ w. w ≡ v) (λ slip w leaning. leaning.1 w)) s)
            (only_first v (map own table) (every_field all own (λ w. w ≡ v) (λ slip w leaning e. some_is (sym e) ∙ leaning.0)) s))

    -- beat 1: where all of a quorum are ready to vote for v, and none for another, all come to stand for it
    gathers : (v : V) (q : ℕ) → f.quorum q ≡ true → Unanimous q v (map say table) → length table ≡ n → AllAdmitted p k 1 heard → Only v (map say table) → Every n (Own v) (beaten p k 1 heard table)
    gathers v q quorum ready long admitted only = every_beaten p k 1 heard table (Own v) (any_slips table long) (Admitted p k 1) admitted.each (λ i s old a x. step s old a)
      where
        step : (s : ℕ) (old : Slip V) → Admitted p k 1 s → Own v (observed before s (received say table s) (received own table s) old)
        step s old a =
            let at = law.shares q s quorum a.admits in
            let there = first_there o (received say table s) v (stands o v (map say table) s at.0 at.2 (ready at.0 at.1)) in
            let is = only_first v (map say table) only s there.0 there.1 in
            ap (λ (r : Option V). unwrap_or (option_or r (first before (received own table s))) old.own) (there.1 ∙ ap {B = Option V} Some is)

    -- beat 1: where all are ready to vote for v, all hold it
    holds : (v : V) → AllAdmitted p k 1 heard → Every n (Ready v) table → Every n (λ slip. slip.held ≡ Some v) (beaten p k 1 heard table)
    holds v admitted all =
        every_beaten p k 1 heard table (λ slip. slip.held ≡ Some v) all (Admitted p k 1) admitted.each
        (λ i s old a x. ap (λ (r : Option V). option_or r old.held) (unanimous_all o f law v (map say table) s a.admits (every_sent all say v (λ slip so. so.1) s a.inside)))

  -- ---- a run

  module _ (proposals : List V) (heard : ℕ → ℕ → List ℕ) where
    -- the table at the start of a phase, and that between its two beats
    abbrev begun : ℕ → List (Slip V)
    begun = start p proposals heard

    abbrev midway : ℕ → List (Slip V)
    midway k = beaten p k 0 (heard k 0) (begun k)

    -- what boxes are ready to vote for in the middle of a phase, they cast in it
    abbrev says_at : ℕ → List (Option V)
    says_at k = map say (midway k)

    casts_at : (k : ℕ) → casts (ended p proposals heard k) ≡ says_at k
    casts_at k = carried p k 1 (heard k 1) (midway k) (λ slip. slip.cast) say (λ i s old. refl)

    module _ (m : ℕ) (c : Course p proposals heard m) where
      -- the slips are one for each box
      begun_length : (k : ℕ) → length (begun k) ≡ n
      begun_length = start_length p proposals heard c.proposed

      midway_length : (k : ℕ) → length (midway k) ≡ n
      midway_length k = beaten_length p k 0 (heard k 0) (begun k) ∙ begun_length k

      -- where all of a quorum are ready to vote for v, a quorum stood for it, so no box is ready to vote for another
      one_say : (k : ℕ) → k < m → (v : V) (q : ℕ) → f.quorum q ≡ true → Unanimous q v (says_at k) → Only v (says_at k)
      one_say k lt v q quorum ready i w e = let stood = formed_stands f law v (says_at k) (q, quorum, ready) in one_formed f law w v (map own (begun k)) (formed i w e) (formed stood.0 v stood.1)
        where
          formed : (i : ℕ) (w : V) → entry (says_at k) i ≡ Some w → Formed f w (map own (begun k))
          formed = unanimous_formed k (heard k 0) (begun k) 0 say own (λ i s old. refl) (begun_length k) (c.admitted k 0 lt (omega arith))

      -- where all stand for v at the start of a phase, they are ready to vote for it, and at the next one's they still stand for it
      all_ready : (v : V) (k : ℕ) → k < m → Every n (Own v) (begun k) → Every n (Ready v) (midway k)
      all_ready v k lt = readies k (heard k 0) (begun k) v (c.admitted k 0 lt (omega arith))

      keeps : (v : V) (k : ℕ) → k < m → Every n (Own v) (begun k) → Every n (Own v) (begun (suc k))
      keeps v k lt all = moves k (heard k 1) (midway k) v (every_so (all_ready v k lt all) (Leans v) (λ slip ready. (ready.0, λ w e. some_is (sym e ∙ ready.1))))

      -- where all of a quorum are ready to vote for v in a phase, from the next one on all stand for v, so none votes for another
      loyal : (r k : ℕ) → r < k → k < m → Loyal f (says_at r) (says_at k)
      loyal r k lt few q i v w quorum ready member = every_field (all_ready v k few kept) say (λ w. w ≡ v) (λ slip w ready e. some_is (sym e ∙ ready.1)) i w
        where
          kept : Every n (Own v) (begun k)
          kept =
              from_then (λ (j : ℕ). Every n (Own v) (begun j)) r k
              (gathers r (heard r 1) (midway r) v q quorum ready (midway_length r) (c.admitted r 1 (omega arith) (omega arith)) (one_say r (omega arith) v q quorum ready))
              (λ j after early all. keeps v j (omega arith) all)
              k lt (omega arith)

      -- what is news, all of a quorum were ready to vote for
      backed : (k : ℕ) → k < m → Backed f (says_at k) (news (ended p proposals heard k))
      backed k lt = unanimous_formed k (heard k 1) (midway k) 1 (λ slip. slip.news) say (λ i s old. refl) (midway_length k) (c.admitted k 1 lt (omega arith))

    -- the casts and news of each phase meet both guards
    guards : (k : ℕ) → Course p proposals heard (suc k)
        → Guards f (λ j. casts (ended p proposals heard j)) k (casts (ended p proposals heard k)) (news (ended p proposals heard k))
    guards k c = guards_met p proposals heard says_at casts_at k (λ r lt. loyal (suc k) c r k lt (omega arith)) (backed (suc k) c k (omega arith))

    -- all heard one clear set in the first beat of a phase: after the next phase all hold
    settled : (k : ℕ) → Course p proposals heard (suc (suc k)) → OneClear p k 0 (heard k 0) → AllHold n (ended p proposals heard (suc k))
    settled k c one =
        let came = leans k (heard k 0) (begun k) (begun_length (suc (suc k)) c k) one in
        let ready = all_ready (suc (suc k)) c came.0 (suc k) (omega arith) (moves k (heard k 1) (midway k) came.0 came.1) in
        all_hold came.0 (ended p proposals heard (suc k)) (holds (suc k) (heard (suc k) 1) (midway (suc k)) came.0 (c.admitted (suc k) 1 (omega arith) (omega arith)) ready)

  -- ---- one slip

  -- every setup of a new slip stood in a slip that it read
  module _ (slip : Slip V) (s : ℕ) (table : List (Slip V)) where
    next_reads : (b : ℕ) (v : V) → Stands v (setups_of_slip (next before b s table slip)) → Read slip s table v
    next_reads zero =
        let owns = received own table s in
        let found = found_read slip s table own at_own (λ x. refl) in
        new_reads slip s table (next before 0 s table slip) (taken_read slip s table o) (had slip s table at_pick)
        (found (unanimous before s owns) (unanimous_stands o s (map own table))) (none_so (Reads slip s table)) (none_so (Reads slip s table)) refl (had slip s table at_dated)
    next_reads (suc b) =
        let says = received say table s in
        let owns = received own table s in
        let found = found_read slip s table say at_say (λ x. refl) in
        new_reads slip s table (next before (suc b) s table slip)
        (unwrap_so (Reads slip s table) (option_or (first before says) (first before owns)) slip.own
        (or_so (Reads slip s table) (first before says) (first before owns) (found (first before says) (first_stands o says)) (first_own_read slip s table o))
        (had_own slip s table)) (had slip s table at_pick) (had slip s table at_say) (had slip s table at_say) (found (unanimous before s says) (unanimous_stands o s (map say table))) refl (had slip s table at_dated)

  -- a new slip depends on the slips that it heard only
  reads_heard : (b s : ℕ) (slip : Slip V) (t u : List (Slip V)) → Alike s t u → next before b s t slip ≡ next before b s u slip
  reads_heard zero s slip t u same =
      let firsts = first_is_alike o own t u s same in
      let all = unanimous_alike o own t u s same in
      λ i. record (turned None None slip) { own = unwrap_or (firsts i) slip.own; say = all i }
  reads_heard (suc b) s slip t u same =
      let said = first_is_alike o say t u s same in
      let firsts = first_is_alike o own t u s same in
      let all = unanimous_alike o say t u s same in
      λ i. record (turned slip.say (all i) slip) { own = unwrap_or (option_or (said i) (firsts i)) slip.own }

  -- held becomes news, and there is no cast and no news after beat 0
  held_follows : (b s : ℕ) (slip : Slip V) (table : List (Slip V)) → (next before b s table slip).held ≡ option_or (next before b s table slip).news slip.held
  held_follows zero s slip table = refl
  held_follows (suc b) s slip table = refl

  quiet : (b s : ℕ) (slip : Slip V) (table : List (Slip V)) → b + 1 < 2 → ((next before b s table slip).cast ≡ None) × ((next before b s table slip).news ≡ None)
  quiet zero s slip table lt = (refl, refl)
  quiet (suc b) s slip table lt = absurd (omega arith)

  pub observing_lawful : Lawful p
  observing_lawful = record {
    ruled = law;
    some_beats = omega arith;
    few_beats = omega arith;
    inside = λ k b s h. law.inside s h;
    admitted = λ k b s le lt h. h;
    whole = λ k b le lt. law.whole;
    origin = λ k b i s slip table v due. next_reads slip s table b v;
    alone = λ k b i s slip t u due. reads_heard b s slip t u;
    follows = λ k b i s slip table due. held_follows b s slip table;
    quiet_cast = λ k b i s slip table due lt. (quiet b s slip table lt).0;
    quiet_news = λ k b i s slip table due lt. (quiet b s slip table lt).1;
    votes = guards;
    settles = λ proposals heard k c one two. settled proposals heard k c (one 0 (omega arith));
  }
