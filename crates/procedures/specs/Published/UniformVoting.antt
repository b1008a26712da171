-- UniformVoting, as it is published: n processes, of which each hears more than half in each round, and phases of two rounds. Assumes nothing.
use Rattle.std.specs.Prelude.{◌≡◌, ◌<◌, ◌*◌, ℕ, zero, suc, Bool, true, List, length, map, Some, None, Option}
use Rattle.quorum.specs.Families.{majority}
use Rattle.quorum.specs.Rules.{Family}
use Rattle.quorum.specs.Sets.{within}
use Rattle.agreement.specs.declared.slips.Slip.{Slip}
use Rattle.agreement.specs.Slips.{Stands, opening}
use Rattle.procedures.specs.Published.Messages.{AllEqual, Smallest, messages}

-- the variables of a process
pub record Process (V : Type 0) : Type 0 where
  pub cand : V
  pub agreed_vote : Option V
  pub decision : Option V

-- The first round, in which each sends its candidate to all, as it changes the variables p of a process to q.
pub record Agreeing {V : Type 0} (before : V → V → Bool) (received : List (Option V)) (p q : Process V) : Type 0 where
  pub candidate : Smallest before received q.cand
  -- if all the values received equal v, that is the agreed vote, and else there is none
  pub agrees : (v : V) → AllEqual v received → q.agreed_vote ≡ Some v
  pub differs : ((v : V) → AllEqual v received → ⊥) → q.agreed_vote ≡ None
  pub decision : q.decision ≡ p.decision

-- The second, in which each sends its candidate and its agreed vote to all.
pub record Deciding {V : Type 0} (before : V → V → Bool) (received : List (V × Option V)) (p q : Process V) : Type 0 where
  -- if at least one agreed vote was received, such a one is the candidate, whichever it is; and else the smallest candidate received
  pub observes : (v : V) → Stands v (map (λ m. m.1) received) → Stands q.cand (map (λ m. m.1) received)
  pub otherwise : ((v : V) → Stands v (map (λ m. m.1) received) → ⊥) → Smallest before (map (λ m. Some m.0) received) q.cand
  -- if all received have the agreed vote v, that is the decision, and else the decision stays
  pub decides : (v : V) → AllEqual v (map (λ m. m.1) received) → q.decision ≡ Some v
  pub waits : ((v : V) → AllEqual v (map (λ m. m.1) received) → ⊥) → q.decision ≡ p.decision
  pub agreed_vote : q.agreed_vote ≡ p.agreed_vote

-- at the beginning
abbrev pub initial : {V : Type 0} → V → Process V
initial v = record { cand = v; agreed_vote = None; decision = None }

-- a slip has them in its fields
abbrev pub process : {V : Type 0} → Slip V → Process V
process slip = record { cand = slip.own; agreed_vote = slip.say; decision = slip.held }

-- what reaches a process from those that it heard: candidates, and in the second round agreed votes with them
abbrev pub candidates : {V : Type 0} → List (Slip V) → ℕ → List (Option V)
candidates table heard = messages (λ slip. Some (process slip).cand) table heard 0

abbrev pub pairs : {V : Type 0} → List (Slip V) → ℕ → List (V × Option V)
pairs table heard = messages (λ slip. ((process slip).cand, (process slip).agreed_vote)) table heard 0

-- the round of a beat; there is no third one
abbrev pub Round : {V : Type 0} → (V → V → Bool) → ℕ → Slip V → ℕ → List (Slip V) → Slip V → Type 0
Round before zero slip heard table new = Agreeing before (candidates table heard) (process slip) (process new)
Round before (suc zero) slip heard table new = Deciding before (pairs table heard) (process slip) (process new)
Round before (suc (suc b)) slip heard table new = Unit {0}

-- A box begins as a process does. The slip and the new slip are a round of UniformVoting: of the majority rule, where the table has a slip for each box, those that
-- were heard are of the roster, and more than half of the processes were heard; and of any rule, where a quorum was heard.
pub record Follows {V : Type 0} (before : V → V → Bool) (f : Family) (b : ℕ) (slip : Slip V) (heard : ℕ) (table : List (Slip V)) (new : Slip V) : Type 0 where
  pub begins : (v : V) → process (opening v) ≡ initial v
  pub round : ((s : ℕ) → f.quorum s ≡ (majority f.boxes).quorum s) → length table ≡ f.boxes → within f.boxes heard ≡ true → f.boxes < 2 * length (candidates table heard)
      → Round before b slip heard table new
  pub of_any_rule : length table ≡ f.boxes → f.quorum heard ≡ true → Round before b slip heard table new
