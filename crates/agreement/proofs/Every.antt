-- What is so of every slip of a table, beat by beat and phase by phase. Assumes nothing.
use Rattle.std.specs.Prelude.{◌≡◌, ℕ, zero, suc, ◌+◌, ◌^◌, ◌<◌, ◌≤◌, true, ◌⊎◌, List, [], ◌∷◌, length, map, Some, None, Option, slice_index}
use Rattle.std.proofs.Common.{inl, inr, sym, refl, ap, ◌∙◌, subst, arith}
use Rattle.std.proofs.lemmas.Bool.{cases_eq, ltb-true}
use Rattle.std.proofs.lemmas.List.{get_or-replicate, length-map}
use Rattle.quorum.specs.Members.{has_below}
use Rattle.quorum.specs.Sets.{within}
use Rattle.setup.specs.Rows.{entry}
use Rattle.book.specs.Voting.{Backed, Guards, Loyal, Unanimous}
use Rattle.agreement.specs.declared.slips.Slip.{Slip}
use Rattle.agreement.specs.Laws.{AllHold, OneClear, ended}
use Rattle.agreement.specs.Protocols.{Protocol, beaten, numbered, through, within_phase}
use Rattle.agreement.specs.Slips.{casts, news, opened, slip_at}
use Rattle.agreement.proofs.Entries.{beaten_from, beaten_item, beaten_length, field_at, field_from, item_inside, item_there}

-- ---- every slip of a table

-- a slip for each of n boxes, and each of them is so
pub record Every {V : Type 0} (n : ℕ) (P : Slip V → Type 0) (table : List (Slip V)) : Type 0 where
  pub count : length table ≡ n
  pub each : (i : ℕ) (slip : Slip V) → slip_at table i ≡ Some slip → P slip

-- any table has slips
pub any_slips : {V : Type 0} {n : ℕ} (table : List (Slip V)) → length table ≡ n → Every n (λ slip. Unit {0}) table
any_slips table long = record { count = long; each = λ i slip at. tt }

module _ {V : Type 0} {n : ℕ} {P : Slip V → Type 0} {table : List (Slip V)} (all : Every n P table) where
  -- what follows for a slip
  pub every_so : (Q : Slip V → Type 0) → ((slip : Slip V) → P slip → Q slip) → Every n Q table
  every_so Q so = record { count = all.count; each = λ i slip at. so slip (all.each i slip at) }

  -- what is so of every slip is so of each field that a box has
  pub every_field : {W : Type 0} (field : Slip V → Option W) (Q : W → Type 0) → ((slip : Slip V) (w : W) → P slip → field slip ≡ Some w → Q w)
      → (i : ℕ) (w : W) → entry (map field table) i ≡ Some w → Q w
  every_field field Q reads i w e = let from = field_from field table i w e in reads from.0 w (all.each i from.0 from.1) from.2

  -- where each slip has v in a field, each box has it there, and so have all boxes of a set
  pub every_entry : {W : Type 0} (field : Slip V → Option W) (v : W) → ((slip : Slip V) → P slip → field slip ≡ Some v) → (i : ℕ) → i < n → entry (map field table) i ≡ Some v
  every_entry field v reads i lt =
      let there = item_there table i (subst (λ (m : ℕ). i < m) (sym all.count) lt) in
      field_at field table i there.0 there.1 ∙ reads there.0 (all.each i there.0 there.1)

  pub every_sent : {W : Type 0} (field : Slip V → Option W) (v : W) → ((slip : Slip V) → P slip → field slip ≡ Some v) → (s : ℕ) → within n s ≡ true → Unanimous s v (map field table)
  every_sent field v reads s inside i member = every_entry field v reads i (has_below n s i (ltb-true s (2 ^ n) inside) member)

-- where each slip holds v, all hold
pub all_hold : {V : Type 0} {n : ℕ} (v : V) (table : List (Slip V)) → Every n (λ slip. slip.held ≡ Some v) table → AllHold n table
all_hold v table all i lt = (v, every_entry all (λ slip. slip.held) v (λ slip e. e) i lt)

-- what a beat keeps of each slip stays in the row
kept_row : {A B C : Type 0} (new : B → C) (old : A → C) (make : ℕ → A → B) → ((i : ℕ) (x : A) → new (make i x) ≡ old x) → (k : ℕ) (xs : List A) → map new (numbered make k xs) ≡ map old xs
kept_row new old make same k [] = refl
kept_row {C} new old make same k (x ∷ xs) =
    ap (λ (c : C). c ∷ map new (numbered make (k + 1) xs)) (same k x) ∙ ap {B = List C} (λ (row : List C). old x ∷ row) (kept_row new old make same (k + 1) xs)

-- and what it reads of a new item and of the old one is read of the rows
joined_row : {A B C D : Type 0} (new : B → Option C) (also : B → Option D) (old : A → Option C) (make : ℕ → A → B) (joins : Option D → Option C → Option C) → joins None None ≡ None
    → ((i : ℕ) (x : A) → new (make i x) ≡ joins (also (make i x)) (old x)) → (k : ℕ) (xs : List A) (i : ℕ)
    → entry (map new (numbered make k xs)) i ≡ joins (entry (map also (numbered make k xs)) i) (entry (map old xs) i)
joined_row new also old make joins none same k [] i = sym none
joined_row new also old make joins none same k (x ∷ xs) zero = same k x
joined_row new also old make joins none same k (x ∷ xs) (suc i) = joined_row new also old make joins none same (k + 1) xs i

-- ---- one beat

-- what is so of the heard set of each of n boxes
abbrev pub EachHeard : ℕ → (ℕ → Type 0) → List ℕ → Type 0
EachHeard n H heard = (i : ℕ) → i < n → H (slice_index heard i)

module _ {V : Type 0} (p : Protocol V) where
  abbrev n : ℕ
  n = p.rule.boxes

  -- where all heard one clear set, each box heard that, so each heard a clear set
  one_heard : (k b : ℕ) (heard : List ℕ) (one : OneClear p k b heard) → EachHeard n (λ s. s ≡ one.0) heard
  one_heard k b heard one i lt = ap (λ (l : List ℕ). slice_index l i) one.2 ∙ get_or-replicate n i one.0 0 lt

  pub each_clear : (k b : ℕ) (heard : List ℕ) → OneClear p k b heard → EachHeard n (λ s. p.clear k b s ≡ true) heard
  each_clear k b heard one i lt = ap (p.clear k b) (one_heard k b heard one i lt) ∙ one.1

  module _ (k b : ℕ) (heard : List ℕ) (table : List (Slip V)) where
    abbrev after : List (Slip V)
    after = beaten p k b heard table

    -- a field of the new slips that is read of the old ones alone
    pub carried : {W : Type 0} (field former : Slip V → W) → ((i s : ℕ) (old : Slip V) → field (p.next k b i old s table) ≡ former old) → map field after ≡ map former table
    carried field former reads = kept_row field former _ (λ i old. reads i (slice_index heard i) old) 0 table

    -- one that is read of another one, and of one of the old slips
    pub joined : {W U : Type 0} (field : Slip V → Option W) (also : Slip V → Option U) (former : Slip V → Option W) (joins : Option U → Option W → Option W) → joins None None ≡ None
        → ((i s : ℕ) (old : Slip V) → field (p.next k b i old s table) ≡ joins (also (p.next k b i old s table)) (former old)) → (i : ℕ)
        → entry (map field after) i ≡ joins (entry (map also after) i) (entry (map former table) i)
    joined field also former joins none reads = joined_row field also former _ joins none (λ i old. reads i (slice_index heard i) old) 0 table

    -- a field of a new slip, from the box's slip before the beat; and the other way round
    pub new_at : {W : Type 0} (field : Slip V → Option W) (i : ℕ) (old : Slip V) → slip_at table i ≡ Some old → entry (map field after) i ≡ field (p.next k b i old (slice_index heard i) table)
    new_at field i old at = field_at field after i _ (beaten_item p k b heard table i old at)

    pub new_from : {W : Type 0} (field : Slip V → Option W) (i : ℕ) (w : W) → entry (map field after) i ≡ Some w
        → (old : Slip V) × (slip_at table i ≡ Some old) × (field (p.next k b i old (slice_index heard i) table) ≡ Some w)
    new_from field i w e =
        let slip = field_from field after i w e in
        let made = beaten_from p k b heard table i slip.0 slip.1 in
        (made.0, made.1, sym (ap field made.2) ∙ slip.2)

    module _ {P : Slip V → Type 0} (Q : Slip V → Type 0) (all : Every n P table) where
      -- what is so of every new slip, as each is made from its box's slip before the beat, of which P is so, and its heard set, of which H is so
      pub every_beaten : (H : ℕ → Type 0) → EachHeard n H heard → ((i s : ℕ) (old : Slip V) → H s → P old → Q (p.next k b i old s table)) → Every n Q after
      every_beaten H hears step = record {
        count = beaten_length p k b heard table ∙ all.count;
        each = λ i slip at.
            let from = beaten_from p k b heard table i slip at in
            let lt = subst (λ (m : ℕ). i < m) all.count (item_inside table i from.0 from.1) in
            subst Q (sym from.2) (step i (slice_index heard i) from.0 (hears i lt) (all.each i from.0 from.1));
      }

      -- where all heard one clear set, they are made from that
      pub every_clear : (one : OneClear p k b heard) → ((i : ℕ) (old : Slip V) → P old → Q (p.next k b i old one.0 table)) → Every n Q after
      every_clear one step =
          every_beaten (λ s. s ≡ one.0) (one_heard k b heard one)
          (λ i s old same so. subst (λ (c : ℕ). Q (p.next k b i old c table)) (sym same) (step i old so))

  -- ---- a run

  -- a table stays as long as it is
  phase_length : (heard : ℕ → ℕ → List ℕ) (k b : ℕ) (table : List (Slip V)) → length (within_phase p heard k b table) ≡ length table
  phase_length heard k zero table = refl
  phase_length heard k (suc b) table = beaten_length p k b (heard k b) (within_phase p heard k b table) ∙ phase_length heard k b table

  module _ (proposals : List V) (heard : ℕ → ℕ → List ℕ) where
    -- the table at the start of a phase
    abbrev pub start : ℕ → List (Slip V)
    start k = through p heard k (opened proposals)

    -- its slips are one for each box
    pub start_length : length proposals ≡ n → (k : ℕ) → length (start k) ≡ n
    start_length long zero = simp length-map long
    start_length long (suc k) = phase_length heard k p.beats (start k) ∙ start_length long k

    -- both guards are met, where the casts of each phase are such a row
    pub guards_met : (row : ℕ → List (Option V)) → ((j : ℕ) → casts (ended p proposals heard j) ≡ row j) → (k : ℕ) → ((r : ℕ) → r < k → Loyal p.rule (row r) (row k))
        → Backed p.rule (row k) (news (ended p proposals heard k)) → Guards p.rule (λ j. casts (ended p proposals heard j)) k (casts (ended p proposals heard k)) (news (ended p proposals heard k))
    guards_met row is k loyal backed =
        subst (λ (voted : ℕ → List (Option V)). Guards p.rule voted k (voted k) (news (ended p proposals heard k))) (λ i j. sym (is j) i) (loyal, backed)

-- what is so after phase r, and stays so phase by phase, is so from then on
pub from_then : (P : ℕ → Type 0) (r m : ℕ) → P (suc r) → ((k : ℕ) → r < k → k < m → P k → P (suc k)) → (k : ℕ) → r < k → k ≤ m → P k
from_then P r m first step zero lt le = absurd (omega arith)
from_then P r m first step (suc k) lt le = go (cases_eq r k) (from_then P r m first step k)
  where
    go : (r ≡ k) ⊎ (r ≡ k → ⊥) → (r < k → k ≤ m → P k) → P (suc k)
    go (inl e) earlier = subst (λ (j : ℕ). P (suc j)) e first
    go (inr d) earlier = step k (omega arith) (omega arith) (earlier (omega arith) (omega arith))
