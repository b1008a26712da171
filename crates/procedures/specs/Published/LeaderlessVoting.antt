-- The leaderless algorithm of most recent votes, as it is published: n processes, and phases of three rounds. Assumes nothing.
use Rattle.std.specs.Prelude.{◌≡◌, ℕ, zero, suc, ◌*◌, ◌<◌, ◌≤◌, Bool, true, List, [], length, map, Some, None, Option, ◌≢◌}
use Rattle.quorum.specs.Families.{majority}
use Rattle.quorum.specs.Rules.{Family}
use Rattle.quorum.specs.Sets.{within}
use Rattle.agreement.specs.declared.slips.Slip.{Slip}
use Rattle.agreement.specs.Slips.{Stands, opening}
use Rattle.procedures.specs.Published.Messages.{Smallest, messages, times}

-- the variables of a process; its most recent vote has the phase of that vote
pub record Process (V : Type 0) : Type 0 where
  pub prop : V
  pub mru_vote : Option (ℕ × V)
  pub cand : Option V
  pub agreed_vote : Option V
  pub decision : Option V

-- d is a vote of the greatest phase among those received
pub record MostRecent {V : Type 0} (votes : List (Option (ℕ × V))) (d : ℕ × V) : Type 0 where
  pub was_received : Stands d votes
  pub newest : (e : ℕ × V) → Stands e votes → e.0 ≤ d.0

-- The first round, in which each sends its most recent vote and its proposal to all, as it changes the variables p of a process to q.
pub record Finding {V : Type 0} (before : V → V → Bool) (n : ℕ) (received : List (Option (ℕ × V) × V)) (p q : Process V) : Type 0 where
  -- a process that heard somebody takes the smallest proposal received
  pub proposes : received ≢ [] → Smallest before (map (λ m. Some m.1) received) q.prop
  pub alone : received ≡ [] → q.prop ≡ p.prop
  -- if it heard more than n/2, its candidate is a most recent of the votes received, or its proposal if none was received; and else it has none
  pub recent : n < 2 * length received → (e : ℕ × V) → Stands e (map (λ m. m.0) received) → (d : ℕ × V) × MostRecent (map (λ m. m.0) received) d × (q.cand ≡ Some d.1)
  pub fresh : n < 2 * length received → ((e : ℕ × V) → Stands e (map (λ m. m.0) received) → ⊥) → q.cand ≡ Some q.prop
  pub few : 2 * length received ≤ n → q.cand ≡ None
  pub mru_vote : q.mru_vote ≡ p.mru_vote
  pub agreed_vote : q.agreed_vote ≡ p.agreed_vote
  pub decision : q.decision ≡ p.decision

-- The second, of phase k, in which each sends its candidate to all.
pub record Agreeing {V : Type 0} (before : V → V → Bool) (n k : ℕ) (received : List (Option V)) (p q : Process V) : Type 0 where
  -- a candidate received more than n/2 times is the agreed vote, and with the phase the most recent one; and where there is none no vote is agreed
  pub agrees : (v : V) → n < 2 * times before v received → (q.mru_vote ≡ Some (k, v)) × (q.agreed_vote ≡ Some v)
  pub differs : ((v : V) → 2 * times before v received ≤ n) → (q.mru_vote ≡ p.mru_vote) × (q.agreed_vote ≡ None)
  pub prop : q.prop ≡ p.prop
  pub cand : q.cand ≡ p.cand
  pub decision : q.decision ≡ p.decision

-- The third, in which each sends its agreed vote to all.
pub record Voting {V : Type 0} (before : V → V → Bool) (n : ℕ) (received : List (Option V)) (p q : Process V) : Type 0 where
  -- an agreed vote received more than n/2 times is the decision, and where there is none the decision stays
  pub decides : (v : V) → n < 2 * times before v received → q.decision ≡ Some v
  pub waits : ((v : V) → 2 * times before v received ≤ n) → q.decision ≡ p.decision
  pub prop : q.prop ≡ p.prop
  pub mru_vote : q.mru_vote ≡ p.mru_vote
  pub cand : q.cand ≡ p.cand
  pub agreed_vote : q.agreed_vote ≡ p.agreed_vote

-- at the beginning
abbrev pub initial : {V : Type 0} → V → Process V
initial v = record { prop = v; mru_vote = None; cand = None; agreed_vote = None; decision = None }

-- a slip has them in its fields
abbrev pub process : {V : Type 0} → Slip V → Process V
process slip = record { prop = slip.own; mru_vote = slip.dated; cand = slip.pick; agreed_vote = slip.say; decision = slip.held }

-- what reaches a process from those that it heard, in each of the rounds
abbrev pub votes_and_proposals : {V : Type 0} → List (Slip V) → ℕ → List (Option (ℕ × V) × V)
votes_and_proposals table heard = messages (λ slip. ((process slip).mru_vote, (process slip).prop)) table heard 0

abbrev pub candidates : {V : Type 0} → List (Slip V) → ℕ → List (Option V)
candidates table heard = messages (λ slip. (process slip).cand) table heard 0

abbrev pub agreed_votes : {V : Type 0} → List (Slip V) → ℕ → List (Option V)
agreed_votes table heard = messages (λ slip. (process slip).agreed_vote) table heard 0

-- the round of a beat of phase k; there is no fourth one
abbrev pub Round : {V : Type 0} → (V → V → Bool) → ℕ → ℕ → ℕ → Slip V → ℕ → List (Slip V) → Slip V → Type 0
Round before n k zero slip heard table new = Finding before n (votes_and_proposals table heard) (process slip) (process new)
Round before n k (suc zero) slip heard table new = Agreeing before n k (candidates table heard) (process slip) (process new)
Round before n k (suc (suc zero)) slip heard table new = Voting before n (agreed_votes table heard) (process slip) (process new)
Round before n k (suc (suc (suc b))) slip heard table new = Unit {0}

-- A box begins as a process does. The slip and the new slip are a round of it: of the majority rule, where the table has a slip for each box, and those that were
-- heard are of the roster.
pub record Follows {V : Type 0} (before : V → V → Bool) (f : Family) (k b : ℕ) (slip : Slip V) (heard : ℕ) (table : List (Slip V)) (new : Slip V) : Type 0 where
  pub begins : (v : V) → process (opening v) ≡ initial v
  pub round : ((s : ℕ) → f.quorum s ≡ (majority f.boxes).quorum s) → length table ≡ f.boxes → within f.boxes heard ≡ true → Round before f.boxes k b slip heard table new
