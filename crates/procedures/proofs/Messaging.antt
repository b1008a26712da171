-- The messages that reach a process, against the row of what a box received. Assumes nothing.
use Rattle.std.specs.Prelude.{◌≡◌, ℕ, zero, suc, ◌+◌, ◌*◌, ◌/◌, ◌%◌, ◌^◌, ◌<◌, Bool, true, false, cond, List, [], ◌∷◌, length, map, Some, None, Option, ◌==◌, unwrap_or}
use Rattle.std.specs.Int.Count.{ones_step}
use Rattle.std.proofs.Common.{sym, refl, ap, ◌∙◌, subst, add-zero, zero-add, arith, pow-suc, shr-shr}
use Rattle.std.proofs.lemmas.Bool.{both_ways}
use Rattle.std.proofs.lemmas.Bool.Decides.{nat_tests}
use Rattle.std.proofs.lemmas.List.{length-map}
use Rattle.std.proofs.lemmas.Nat.{ones-le}
use Rattle.quorum.specs.Members.{has_below}
use Rattle.quorum.specs.Sets.{count, has}
use Rattle.quorum.proofs.Somes.{some_none}
use Rattle.setup.specs.Orders.{Ordered}
use Rattle.setup.specs.Rows.{among, among_at, boxes_with, entry, first, is}
use Rattle.setup.proofs.Searching.{Least, least}
use Rattle.book.specs.Voting.{Unanimous}
use Rattle.agreement.specs.Slips.{Stands}
use Rattle.procedures.specs.Published.Messages.{AllEqual, Smallest, SmallestMostOften, messages, times}
use Rattle.procedures.specs.Received.{IsMostOften}
use Rattle.procedures.specs.Laws.Received.{first_stands, first_there, heard_entry, sent, there_is_none}

-- what is made of each message
pub map_messages : {A B C : Type 0} (g : B → C) (send : A → B) (table : List A) (s i : ℕ) → map g (messages send table s i) ≡ messages (λ x. g (send x)) table s i
map_messages g send [] s i = refl
map_messages {A} {B} {C} g send (x ∷ table) s i = go (has s i) (map_messages g send table s (i + 1))
  where
    rest : List B
    rest = messages send table s (i + 1)

    others : List C
    others = messages (λ y. g (send y)) table s (i + 1)

    go : (b : Bool) → map g rest ≡ others → map g (cond b (send x ∷ rest) rest) ≡ cond b (g (send x) ∷ others) others
    go true same = ap (λ (l : List C). g (send x) ∷ l) same
    go false same = same

-- ---- how many there are

-- how many boxes a set has: box 0, if it is in it, and the others
count_next : (b : Bool) (s : ℕ) → count (cond b 1 0 + 2 * s) ≡ cond b 1 0 + count s
count_next true s = let half : (1 + 2 * s) / 2 ≡ s = omega arith in omega (arith, ones_step (1 + 2 * s), ap count half)
count_next false s = let half : (0 + 2 * s) / 2 ≡ s = omega arith in omega (arith, ones_step (0 + 2 * s), ap count half)

-- and so of any set
count_half : (s : ℕ) → count s ≡ cond (s % 2 == 1) 1 0 + count (s / 2)
count_half s = let step = ones_step s in grind (arith, nat_tests)

-- there is one of each process of the set from process i on, if all of them are in the table
length_from : {A B : Type 0} (send : A → B) (table : List A) (s i : ℕ) → s / 2 ^ i < 2 ^ length table → length (messages send table s i) ≡ count (s / 2 ^ i)
length_from send [] s i small = omega (arith, ones-le 0 (s / 2 ^ i) small)
length_from {A} {B} send (x ∷ table) s i small = go (has s i) (length_from send table s (i + 1) (omega (arith, half, next, small))) ∙ sym (count_half (s / 2 ^ i) ∙ ap (λ (c : ℕ). cond (has s i) 1 0 + count c) half)
  where
    half : s / 2 ^ i / 2 ≡ s / 2 ^ (i + 1)
    half = shr-shr s i 1

    next : 2 ^ length (x ∷ table) ≡ 2 * 2 ^ length table
    next = omega (arith, pow-suc 2 (length table))

    go : (b : Bool) → length (messages send table s (i + 1)) ≡ count (s / 2 ^ (i + 1))
        → length (cond b (send x ∷ messages send table s (i + 1)) (messages send table s (i + 1))) ≡ cond b 1 0 + count (s / 2 ^ (i + 1))
    go true rest = ap suc rest ∙ omega arith
    go false rest = omega (arith, rest)

-- so there are as many as processes that were heard
pub length_messages : {A B : Type 0} (send : A → B) (table : List A) (s : ℕ) → s < 2 ^ length table → length (messages send table s 0) ≡ count s
length_messages send table s small = let all : s / 2 ^ 0 ≡ s = omega arith in length_from send table s 0 (omega (arith, all, small)) ∙ ap count all

-- v is among those from process i on as often as it has senders there
times_from : {A V : Type 0} (before : V → V → Bool) (v : V) (field : A → Option V) (table : List A) (s i : ℕ)
    → times before v (messages field table s i) ≡ count (boxes_with before v (among_at (map field table) s i))
times_from before v field [] s i = sym (omega (arith, ones-le 0 0 (omega arith)))
times_from {A} {V} before v field (x ∷ table) s i = go (has s i) (times_from before v field table s (i + 1))
  where
    rest : List (Option V)
    rest = messages field table s (i + 1)

    row : List (Option V)
    row = among_at (map field table) s (i + 1)

    go : (b : Bool) → times before v rest ≡ count (boxes_with before v row) → times before v (cond b (field x ∷ rest) rest) ≡ count (boxes_with before v (cond b (field x) None ∷ row))
    go true same = ap (λ (c : ℕ). cond (is before v (field x)) 1 0 + c) same ∙ sym (count_next (is before v (field x)) (boxes_with before v row))
    go false same = same ∙ sym (count_next false (boxes_with before v row) ∙ zero-add (count (boxes_with before v row)))

-- so it reaches a process as often as it has senders
pub times_messages : {A V : Type 0} (before : V → V → Bool) (v : V) (field : A → Option V) (table : List A) (s : ℕ)
    → times before v (messages field table s 0) ≡ count (boxes_with before v (among (map field table) s))
times_messages before v field table s = times_from before v field table s 0

-- ---- which there are

-- what stands in a row stands within it
entry_inside : {W : Type 0} (row : List (Option W)) (i : ℕ) (w : W) → entry row i ≡ Some w → i < length row
entry_inside [] i w e = absurd (some_none (sym e))
entry_inside (x ∷ row) zero w e = omega arith
entry_inside (x ∷ row) (suc i) w e = omega (arith, entry_inside row i w e)

module _ {A W : Type 0} (field : A → Option W) where
  -- message j is what the process at place p of the table sent, and that was heard: the table begins with process i
  abbrev From : List A → ℕ → ℕ → List (Option W) → ℕ → Type 0
  From table s i received j = (p : ℕ) × (p < length table) × (has s (i + p) ≡ true) × (entry (map field table) p ≡ entry received j)

  -- a message is what the process at place p of the table sent
  abbrev Of : List A → List (Option W) → ℕ → Type 0
  Of table received p = (j : ℕ) × (j < length received) × (entry received j ≡ entry (map field table) p)

  -- each message is of a process that was heard
  message_from : (table : List A) (s i j : ℕ) → j < length (messages field table s i) → From table s i (messages field table s i) j
  message_from [] s i j lt = absurd (omega arith)
  message_from (x ∷ table) s i j lt = go (has s i) refl j lt (message_from table s (i + 1))
    where
      rest : List (Option W)
      rest = messages field table s (i + 1)

      after : (p : ℕ) → i + suc p ≡ i + 1 + p
      after p = omega arith

      later : (j : ℕ) → From table s (i + 1) rest j → From (x ∷ table) s i rest j
      later j m = (suc m.0, omega (arith, m.1), ap (has s) (after m.0) ∙ m.2, m.3)

      go : (b : Bool) → has s i ≡ b → (j : ℕ) → j < length (cond b (field x ∷ rest) rest) → ((k : ℕ) → k < length rest → From table s (i + 1) rest k)
          → From (x ∷ table) s i (cond b (field x ∷ rest) rest) j
      go true there zero lt more = (0, omega arith, ap (has s) (add-zero i) ∙ there, refl)
      go true there (suc j) lt more = later j (more j (omega arith))
      go false absent j lt more = later j (more j lt)

  -- and of each such process there is one
  message_of : (table : List A) (s i p : ℕ) → p < length table → has s (i + p) ≡ true → Of table (messages field table s i) p
  message_of [] s i p lt h = absurd (omega arith)
  message_of (x ∷ table) s i p lt h = go (has s i) refl p lt h (message_of table s (i + 1))
    where
      rest : List (Option W)
      rest = messages field table s (i + 1)

      after : (p : ℕ) → i + 1 + p ≡ i + suc p
      after p = omega arith

      go : (b : Bool) → has s i ≡ b → (p : ℕ) → p < suc (length table) → has s (i + p) ≡ true → ((q : ℕ) → q < length table → has s (i + 1 + q) ≡ true → Of table rest q)
          → Of (x ∷ table) (cond b (field x ∷ rest) rest) p
      go true there zero lt h more = (0, omega arith, refl)
      go true there (suc p) lt h more = let m = more p (omega arith) (ap (has s) (after p) ∙ h) in (suc m.0, omega (arith, m.1), m.2)
      go false absent zero lt h more = absurd (both_ways (has s i) absent (ap (has s) (sym (add-zero i)) ∙ h))
      go false absent (suc p) lt h more = more p (omega arith) (ap (has s) (after p) ∙ h)

  module _ (w : W) (table : List A) (s : ℕ) where
    -- so what reaches a process stands in what was received, and the other way round
    pub reached_stands : Stands w (messages field table s 0) → Stands w (among (map field table) s)
    reached_stands stood =
        let m = message_from table s 0 stood.0 (entry_inside (messages field table s 0) stood.0 w stood.1) in
        (m.0, heard_entry (map field table) s m.0 (ap (has s) (sym (zero-add m.0)) ∙ m.2) ∙ m.3 ∙ stood.1)

    pub stands_reached : Stands w (among (map field table) s) → Stands w (messages field table s 0)
    stands_reached stood =
        let at = sent (map field table) s stood.0 w stood.1 in
        let inside : stood.0 < length table = subst (λ (n : ℕ). stood.0 < n) (length-map table field) (entry_inside (map field table) stood.0 w at.1) in
        let m = message_of table s 0 stood.0 inside (ap (has s) (zero-add stood.0) ∙ at.0) in
        (m.0, m.2 ∙ at.1)

    -- and all that reach it equal w exactly if all processes that were heard have it
    pub unanimous_equal : Unanimous s w (map field table) → AllEqual w (messages field table s 0)
    unanimous_equal all j lt = let m = message_from table s 0 j lt in sym m.3 ∙ all m.0 (ap (has s) (sym (zero-add m.0)) ∙ m.2)

    pub equal_unanimous : s < 2 ^ length table → AllEqual w (messages field table s 0) → Unanimous s w (map field table)
    equal_unanimous small all i h = let m = message_of table s 0 i (has_below (length table) s i small h) (ap (has s) (zero-add i) ∙ h) in sym m.2 ∙ all m.0 m.1

-- ---- the smallest

module _ {V : Type 0} {before : V → V → Bool} (o : Ordered before) {A : Type 0} (field : A → Option V) (table : List A) (s : ℕ) where
  -- the row of what was received, and the messages
  abbrev row : List (Option V)
  row = among (map field table) s

  abbrev reached : List (Option V)
  reached = messages field table s 0

  -- the first that was received is the smallest that reaches a process
  pub smallest_reached : (v : V) → first before row ≡ Some v → Smallest before reached v
  smallest_reached v e =
      let law = subst (Least o row) e (least o row) in
      record { was_received = stands_reached field v table s law.0; least = λ w stood. let at = reached_stands field w table s stood in law.1 at.0 w at.1 }

  -- where a value reaches a process there is a smallest, and where none does there is none
  pub some_first : (v : V) → Stands v reached → (w : V) × (first before row ≡ Some w)
  some_first v stood = first_there o row v (reached_stands field v table s stood)

  pub no_first : ((v : V) → Stands v reached → ⊥) → first before row ≡ None
  no_first none = there_is_none (first before row) (λ v e. none v (stands_reached field v table s (first_stands o row v e)))

  -- so where one does, a box that stands for the first, and for d where there is none, stands for the smallest
  pub smallest_taken : (v d : V) → Stands v reached → Smallest before reached (unwrap_or (first before row) d)
  smallest_taken v d stood =
      let found = some_first v stood in subst (λ (x : Option V). Smallest before reached (unwrap_or x d)) (sym found.1) (smallest_reached found.0 found.1)

  -- and the one most often received is the smallest of those that most often reach it
  pub most_reached : (v : V) → IsMostOften before row (Some v) → SmallestMostOften before reached v
  most_reached v law = record {
    was_received = stands_reached field v table s law.0;
    most = λ w stood. let other = law.1 w (reached_stands field w table s stood) in omega (arith, other.0, times_messages before v field table s, times_messages before w field table s);
    least = λ w stood same. let other = law.1 w (reached_stands field w table s stood) in other.1 (sym (times_messages before w field table s) ∙ same ∙ times_messages before v field table s);
  }
