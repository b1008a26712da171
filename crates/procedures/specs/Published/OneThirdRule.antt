-- OneThirdRule, as it is published: n processes, and in each round each sends its last vote to all. Assumes nothing.
use Rattle.std.specs.Prelude.{◌≡◌, ℕ, ◌*◌, ◌<◌, ◌≤◌, Bool, true, List, length, Some, None, Option}
use Rattle.quorum.specs.Families.{at_least, thirds}
use Rattle.quorum.specs.Rules.{Family}
use Rattle.quorum.specs.Sets.{within}
use Rattle.agreement.specs.declared.slips.Slip.{Slip}
use Rattle.agreement.specs.Slips.{opening}
use Rattle.procedures.specs.Published.Messages.{SmallestMostOften, messages, times}

-- the variables of a process
pub record Process (V : Type 0) : Type 0 where
  pub last_vote : V
  pub decision : Option V

-- a round, as it changes the variables p of a process to q
pub record Round {V : Type 0} (before : V → V → Bool) (n : ℕ) (received : List (Option V)) (p q : Process V) : Type 0 where
  -- a vote received more than 2n/3 times is the decision, and where none was the decision stays
  pub decides : (w : V) → 2 * n < 3 * times before w received → q.decision ≡ Some w
  pub waits : ((w : V) → 3 * times before w received ≤ 2 * n) → q.decision ≡ p.decision
  -- a process that heard more than 2n/3 processes votes for the smallest of the votes received most often, and any other keeps its vote
  pub votes : 2 * n < 3 * length received → SmallestMostOften before received q.last_vote
  pub keeps : 3 * length received ≤ 2 * n → q.last_vote ≡ p.last_vote

-- at the beginning
abbrev pub initial : {V : Type 0} → V → Process V
initial v = record { last_vote = v; decision = None }

-- a slip has them in its fields
abbrev pub process : {V : Type 0} → Slip V → Process V
process slip = record { last_vote = slip.own; decision = slip.held }

-- what reaches a process from those that it heard
abbrev pub received : {V : Type 0} → List (Slip V) → ℕ → List (Option V)
received table heard = messages (λ slip. Some (process slip).last_vote) table heard 0

-- more than two thirds are a quorum, and clear
pub record ByThirds (f : Family) (clear : ℕ → Bool) : Type 0 where
  pub quorums : (s : ℕ) → f.quorum s ≡ at_least f.boxes (thirds f.boxes) s
  pub clears : (s : ℕ) → clear s ≡ at_least f.boxes (thirds f.boxes) s

-- A box begins as a process does. The slip and the new slip are a round of OneThirdRule: of a rule of more than two thirds, where the table has a slip for each
-- box, and those that were heard are of the roster.
pub record Follows {V : Type 0} (before : V → V → Bool) (f : Family) (clear : ℕ → Bool) (slip : Slip V) (heard : ℕ) (table : List (Slip V)) (new : Slip V) : Type 0 where
  pub begins : (v : V) → process (opening v) ≡ initial v
  pub round : ByThirds f clear → length table ≡ f.boxes → within f.boxes heard ≡ true → Round before f.boxes (received table heard) (process slip) (process new)
