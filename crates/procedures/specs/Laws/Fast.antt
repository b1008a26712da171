-- Fast keeps the laws, over every clear-view rule and kind of setup. Assumes nothing.
use Rattle.std.specs.Prelude.{◌≡◌, ℕ, zero, suc, ◌/◌, ◌^◌, ◌<◌, Bool, true, false, cond, not, ◌||◌, ◌⊎◌, List, map, length, Some, None, Option, bit_or, unwrap_or, slice_index}
use Rattle.std.specs.Option.{option_or}
use Rattle.std.proofs.Common.{inl, inr, sym, ap, ◌∙◌, refl, arith, pow-suc, pow_pos}
use Rattle.std.proofs.lemmas.Bool.{both_ways, cases_Bool, cond-true, lt-ltb, ltb-true, or_cases, or_left, or_right}
use Rattle.std.proofs.lemmas.Bool.Decides.{nat_tests}
use Rattle.std.proofs.lemmas.List.{length-map}
use Rattle.std.proofs.lemmas.Nat.{or_lt}
use Rattle.quorum.specs.Members.{has_below, has_half, has_or}
use Rattle.quorum.specs.Rules.{ClearLawful, Family, Lawful as RuleLawful}
use Rattle.quorum.specs.Sets.{has, Part}
use Rattle.quorum.proofs.Growth.{quorum_grows}
use Rattle.quorum.proofs.Somes.{some_is}
use Rattle.setup.specs.Orders.{Ordered}
use Rattle.setup.specs.Rows.{among, boxes_with, entry}
use Rattle.setup.proofs.Gathering.{length_among, with_within}
use Rattle.book.specs.Voting.{Backed, Guards, Loyal, Unanimous}
use Rattle.agreement.specs.declared.slips.Slip.{Slip}
use Rattle.agreement.specs.Laws.{Alike, AllHold, Course, Lawful, OneClear, Read, ended}
use Rattle.agreement.specs.Protocols.{Protocol, beaten}
use Rattle.agreement.specs.Slips.{Stands, casts, news, setups_of_slip, turned}
use Rattle.agreement.proofs.Entries.{at_dated, at_own, at_pick, at_say, field_from}
use Rattle.agreement.proofs.Every.{EachHeard, Every, all_hold, any_slips, carried, each_clear, every_beaten, every_clear, every_sent, from_then, guards_met, new_at, new_from, start, start_length}
use Rattle.procedures.specs.Fast.{AtMostOne, fast, favourite, polled}
use Rattle.procedures.specs.Received.{backed, most_often, own, received, unheard}
use Rattle.procedures.specs.Laws.Reading.{Reads, So, found_read, had, had_own, new_reads, or_so, unwrap_so}
use Rattle.procedures.specs.Laws.Received.{backed_alike, backed_stands, often_alike, often_stands, often_there, sender_sent, sent_sender, stands}
use Rattle.procedures.specs.Laws.Sent.{backed_all, backed_formed, backed_only, own_stands}

-- ---- the boxes that were not heard

-- they are boxes of the roster
pub unheard_small : (n s : ℕ) → unheard n s < 2 ^ n
unheard_small n s = let some = pow_pos n in omega arith

-- a box of the roster was either heard or not
pub has_unheard : (n s i : ℕ) → s < 2 ^ n → i < n → has (unheard n s) i ≡ not (has s i)
has_unheard zero s i small lt = absurd (omega arith)
has_unheard (suc n) s zero small lt = let twice = pow-suc 2 n in let some = pow_pos n in grind (arith, nat_tests)
has_unheard (suc n) s (suc i) small lt =
    let twice = pow-suc 2 n in
    let some = pow_pos n in
    let half : unheard (suc n) s / 2 ≡ unheard n (s / 2) = omega arith in
    has_half (unheard (suc n) s) i ∙ ap (λ (t : ℕ). has t i) half ∙ has_unheard n (s / 2) i (omega arith) (omega arith) ∙ ap not (sym (has_half s i))

-- ---- what a box received that heard a clear set

-- a possible quorum for v: its senders, and the boxes that were not heard
abbrev pub possible : {V : Type 0} → Family → (V → V → Bool) → ℕ → List (Option V) → V → ℕ
possible f before s received v = bit_or (boxes_with before v received) (unheard f.boxes s)

module _ {V : Type 0} {before : V → V → Bool} (o : Ordered before) (f : Family) (clear : ℕ → Bool) (view : ClearLawful f clear) (row : List (Option V)) (s : ℕ)
    (is_clear : clear s ≡ true) where
  -- the possible quorum for v
  abbrev possible_for : V → ℕ
  possible_for = possible f before s (among row s)

  -- a clear set is within the roster
  inside_clear : s < 2 ^ f.boxes
  inside_clear = ltb-true s (2 ^ f.boxes) (view.inside s is_clear)

  -- those of its boxes that were heard sent v
  possible_heard : (v : V) (i : ℕ) → has s i ≡ true → has (possible_for v) i ≡ true → entry row i ≡ Some v
  possible_heard v i there h = go (or_cases _ _ (sym (has_or (boxes_with before v (among row s)) (unheard f.boxes s) i) ∙ h))
    where
      go : (has (boxes_with before v (among row s)) i ≡ true) ⊎ (has (unheard f.boxes s) i ≡ true) → entry row i ≡ Some v
      go (inl e) = (sender_sent o v row s i e).1
      go (inr e) = absurd (both_ways (has (unheard f.boxes s) i) (has_unheard f.boxes s i inside_clear (has_below f.boxes s i inside_clear there) ∙ ap not there) e)

  -- every box of the roster that has v in the row is of it, heard or not
  sent_possible : (v : V) (i : ℕ) → i < f.boxes → entry row i ≡ Some v → has (possible_for v) i ≡ true
  sent_possible v i lt e = has_or (boxes_with before v (among row s)) (unheard f.boxes s) i ∙ go (cases_Bool (has s i))
    where
      go : (has s i ≡ true) ⊎ (has s i ≡ false) → (has (boxes_with before v (among row s)) i || has (unheard f.boxes s) i) ≡ true
      go (inl h) = or_left _ (has (unheard f.boxes s) i) (sent_sender o v row s i h e)
      go (inr h) = or_right (has (boxes_with before v (among row s)) i) _ (has_unheard f.boxes s i inside_clear lt ∙ ap not h)

  -- of a clear set there is at most one setup whose possible quorum is a quorum
  pub one_favourite : (v w : V) → f.quorum (possible_for v) ≡ true → f.quorum (possible_for w) ≡ true → v ≡ w
  one_favourite v w of_v of_w =
      let at = view.shares (possible_for v) (possible_for w) s of_v of_w is_clear in
      some_is (sym (possible_heard v at.0 at.3 at.1) ∙ possible_heard w at.0 at.3 at.2)

pub at_most_one : {V : Type 0} {before : V → V → Bool} → Ordered before → (f : Family) (clear : ℕ → Bool) → ClearLawful f clear → (heard : ℕ) (table : List (Slip V))
    → AtMostOne f before clear heard (received own table heard)
at_most_one o f clear view heard table = record { one = λ is_clear v w of_v of_w. one_favourite o f clear view (map own table) heard is_clear v w of_v of_w }

module _ {V : Type 0} {before : V → V → Bool} (o : Ordered before) (f : Family) (law : RuleLawful f) (clear : ℕ → Bool) (view : ClearLawful f clear) where
  abbrev p : Protocol V
  p = fast before f clear

  abbrev n : ℕ
  n = f.boxes

  -- a clear set is a quorum
  clear_quorum : (s : ℕ) → clear s ≡ true → f.quorum s ≡ true
  clear_quorum s c = let has_quorum = view.contains s c in quorum_grows f law has_quorum.0 s has_quorum.1 has_quorum.2 (view.inside s c)

  -- where all of a quorum sent v, and a clear set was heard, v is the favourite
  favoured : (row : List (Option V)) (s q : ℕ) (v : V) → length row ≡ n → clear s ≡ true → f.quorum q ≡ true → Unanimous q v row
      → backed f before (unheard n s) (among row s) ≡ Some v
  favoured row s q v long is_clear quorum all =
      backed_only o f (unheard n s) v (among row s) (stands o v row s at.0 at.3 (all at.0 at.1)) elected (λ w stood h. one_favourite o f clear view row s is_clear w v h elected)
    where
      at : (i : ℕ) × (has q i ≡ true) × (has q i ≡ true) × (has s i ≡ true)
      at = view.shares q q s quorum quorum is_clear

      part : Part q (possible f before s (among row s) v)
      part i h = sent_possible o f clear view row s is_clear v i (has_below n q i (ltb-true q (2 ^ n) (law.inside q quorum)) h) (all i h)

      senders : boxes_with before v (among row s) < 2 ^ n
      senders = ltb-true _ (2 ^ n) (with_within before v (among row s) n (length_among row s 0 ∙ long))

      elected : f.quorum (possible f before s (among row s) v) ≡ true
      elected = quorum_grows f law q _ quorum part (lt-ltb _ (2 ^ n) (or_lt n (boxes_with before v (among row s)) (unheard n s) senders (unheard_small n s)))

  -- a slip stands for v
  abbrev Own : V → Slip V → Type 0
  Own v slip = slip.own ≡ v

  -- ---- one beat

  module _ (k : ℕ) (heard : List ℕ) (table : List (Slip V)) where
    abbrev owns : List (Option V)
    owns = map own table

    abbrev after : List (Slip V)
    after = beaten p k 0 heard table

    -- what is news, all of a quorum stood for
    news_backed : Backed f owns (news after)
    news_backed i w e = backed_formed o f owns (slice_index heard i) w (new_from p k 0 heard table (λ slip. slip.news) i w e).2

    module _ (long : length table ≡ n) where
      -- where all of a quorum stand for v, they keep to it
      keeps : (q : ℕ) (v : V) → f.quorum q ≡ true → Unanimous q v owns → Unanimous q v (map own after)
      keeps q v quorum all i h =
          let from = field_from own table i v (all i h) in
          new_at p k 0 heard table own i from.0 from.1 ∙ ap {B = Option V} Some (step (slice_index heard i) from.0 (some_is from.2))
        where
          step : (s : ℕ) (old : Slip V) → old.own ≡ v → (polled f before clear s (received own table s) old).own ≡ v
          step s old e = go (clear s) refl
            where
              go : (b : Bool) → clear s ≡ b → cond b (unwrap_or (favourite f before s (received own table s)) old.own) old.own ≡ v
              go true c =
                  ap (λ (x : Option V). unwrap_or (option_or x (most_often before (received own table s))) old.own)
                  (favoured owns s q v (simp length-map long) c quorum all)
              go false c = e

      -- where all hear one clear set, all come to stand for one setup
      gathers : OneClear p k 0 heard → (v : V) × Every n (Own v) after
      gathers one = (chosen.0, every_clear p k 0 heard table (Own chosen.0) (any_slips table long) one (λ i old x. step old))
        where
          some : (x : Option V) → (v : V) × (option_or x (most_often before (received own table one.0)) ≡ Some v)
          some (Some v) = (v, refl)
          some None = let stood = own_stands f law table long one.0 (clear_quorum one.0 one.1) in often_there o (received own table one.0) stood.0 stood.1

          chosen : (v : V) × (favourite f before one.0 (received own table one.0) ≡ Some v)
          chosen = some (backed f before (unheard n one.0) (received own table one.0))

          step : (old : Slip V) → Own chosen.0 (polled f before clear one.0 (received own table one.0) old)
          step old = cond-true (clear one.0) _ old.own one.1 ∙ ap (λ (x : Option V). unwrap_or x old.own) chosen.1

    -- where all stand for v, and each hears a clear set, all hold it
    holds : (v : V) → EachHeard n (λ s. clear s ≡ true) heard → Every n (Own v) table → Every n (λ slip. slip.held ≡ Some v) after
    holds v hears all =
        every_beaten p k 0 heard table (λ slip. slip.held ≡ Some v) all (λ s. clear s ≡ true) hears
        (λ i s old is_clear e. ap (λ (x : Option V). option_or x old.held) (backed_all o f law v owns s (clear_quorum s is_clear) (every_sent all own v (λ slip e. ap {B = Option V} Some e) s (view.inside s is_clear))))

  -- ---- a run

  module _ (proposals : List V) (heard : ℕ → ℕ → List ℕ) where
    -- what boxes stand for at the start of a phase, they cast in it
    abbrev owns_at : ℕ → List (Option V)
    owns_at k = map own (start p proposals heard k)

    casts_at : (k : ℕ) → casts (ended p proposals heard k) ≡ owns_at k
    casts_at k = carried p k 0 (heard k 0) (start p proposals heard k) (λ slip. slip.cast) own (λ i s old. refl)

    -- where all of a quorum stand for v in a phase, they do from then on
    loyal : length proposals ≡ n → (r k : ℕ) → r < k → Loyal f (owns_at r) (owns_at k)
    loyal long r k lt q i v w quorum all member now = some_is (sym now ∙ kept i member)
      where
        next : (j : ℕ) → Unanimous q v (owns_at j) → Unanimous q v (owns_at (suc j))
        next j = keeps j (heard j 0) (start p proposals heard j) (start_length p proposals heard long j) q v quorum

        kept : Unanimous q v (owns_at k)
        kept = from_then (λ (j : ℕ). Unanimous q v (owns_at j)) r k (next r all) (λ j after early so. next j so) k lt (omega arith)

    -- the casts and news of each phase meet both guards
    guards : (k : ℕ) → Course p proposals heard (suc k)
        → Guards f (λ j. casts (ended p proposals heard j)) k (casts (ended p proposals heard k)) (news (ended p proposals heard k))
    guards k c = guards_met p proposals heard owns_at casts_at k (λ r lt. loyal c.proposed r k lt) (news_backed k (heard k 0) (start p proposals heard k))

    -- all heard one clear set in a phase, and each a clear set in the next: all hold
    settled : (k : ℕ) → length proposals ≡ n → OneClear p k 0 (heard k 0) → EachHeard n (λ s. clear s ≡ true) (heard (suc k) 0) → AllHold n (ended p proposals heard (suc k))
    settled k long one hears =
        let came = gathers k (heard k 0) (start p proposals heard k) (start_length p proposals heard long k) one in
        all_hold came.0 (ended p proposals heard (suc k)) (holds (suc k) (heard (suc k) 0) (start p proposals heard (suc k)) came.0 hears came.1)

  -- ---- one slip

  -- every setup of a new slip stood in a slip that it read
  polled_reads : (slip : Slip V) (s : ℕ) (table : List (Slip V)) (v : V) → Stands v (setups_of_slip (polled f before clear s (received own table s) slip)) → Read slip s table v
  polled_reads slip s table = new_reads slip s table (polled f before clear s owns slip) (stood_for (clear s)) (read at_pick) (read at_say) (read at_own) (from_quorum 0) refl (read at_dated)
    where
      owns : List (Option V)
      owns = received own table s

      read : (i : ℕ) → So (Reads slip s table) (entry (setups_of_slip slip) i)
      read = had slip s table

      from_quorum : (others : ℕ) → So (Reads slip s table) (backed f before others owns)
      from_quorum others = found_read slip s table own at_own (λ x. refl) (backed f before others owns) (backed_stands o f others owns)

      favourite_read : So (Reads slip s table) (favourite f before s owns)
      favourite_read = or_so (Reads slip s table) (backed f before (unheard n s) owns) (most_often before owns) (from_quorum (unheard n s)) (found_read slip s table own at_own (λ x. refl) (most_often before owns) (often_stands o owns))

      -- what it stands for, whether or not it heard a clear set
      stood_for : (b : Bool) → Reads slip s table (cond b (unwrap_or (favourite f before s owns) slip.own) slip.own)
      stood_for true = unwrap_so (Reads slip s table) (favourite f before s owns) slip.own favourite_read (had_own slip s table)
      stood_for false = had_own slip s table

  -- a new slip depends on the slips that it heard only
  reads_heard : (s : ℕ) (slip : Slip V) (t u : List (Slip V)) → Alike s t u → polled f before clear s (received own t s) slip ≡ polled f before clear s (received own u s) slip
  reads_heard s slip t u same =
      let told = backed_alike o own t u s same f 0 in
      let elected = backed_alike o own t u s same f (unheard n s) in
      let often = often_alike o own t u s same in
      λ i. record (turned (Some slip.own) (told i) slip) { own = cond (clear s) (unwrap_or (option_or (elected i) (often i)) slip.own) slip.own }

  pub fast_lawful : Lawful p
  fast_lawful = record {
    ruled = law;
    some_beats = omega arith;
    few_beats = omega arith;
    inside = λ k b s h. view.inside s h;
    admitted = λ k b s le lt h. refl;
    whole = λ k b le lt. view.whole;
    origin = λ k b i s slip table v due. polled_reads slip s table v;
    alone = λ k b i s slip t u due. reads_heard s slip t u;
    follows = λ k b i s slip table due. refl;
    quiet_cast = λ k b i s slip table due lt. absurd (omega arith);
    quiet_news = λ k b i s slip table due lt. absurd (omega arith);
    votes = guards;
    settles = λ proposals heard k c one two. settled proposals heard k c.proposed (one 0 (omega arith)) (each_clear p (suc k) 0 (heard (suc k) 0) (two 0 (omega arith)));
  }
