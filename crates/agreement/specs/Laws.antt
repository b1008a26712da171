-- What every procedure shows. Assumes nothing.
use Rattle.std.specs.Prelude.{◌≡◌, ℕ, suc, ◌+◌, ◌<◌, ◌≤◌, true, ◌⊎◌, List, length, replicate, Some, None, slice_index}
use Rattle.std.specs.Option.{option_or}
use Rattle.quorum.specs.Rules.{Lawful as RuleLawful}
use Rattle.quorum.specs.Sets.{everyone, has, within}
use Rattle.setup.specs.Rows.{entry}
use Rattle.book.specs.Voting.{Guards}
use Rattle.agreement.specs.declared.slips.Slip.{Slip}
use Rattle.agreement.specs.Protocols.{Protocol, through}
use Rattle.agreement.specs.Slips.{Stands, casts, held, news, opened, setups_of_slip, slip_at}

-- the last phase
abbrev pub last : ℕ
last = 65535

-- a heard set of the roster that the beat admits
pub record Admitted {V : Type 0} (p : Protocol V) (k b s : ℕ) : Type 0 where
  pub inside : within p.rule.boxes s ≡ true
  pub admits : p.admits k b s ≡ true

-- one such set for each box
pub record AllAdmitted {V : Type 0} (p : Protocol V) (k b : ℕ) (heard : List ℕ) : Type 0 where
  pub count : length heard ≡ p.rule.boxes
  pub each : (i : ℕ) → i < p.rule.boxes → Admitted p k b (slice_index heard i)

-- there is such a phase and beat, and such a box, and it may go on with what it heard: so that a new slip is made
pub record Due {V : Type 0} (p : Protocol V) (k b i s : ℕ) : Type 0 where
  pub phase : k ≤ last
  pub beat : b < p.beats
  pub box : i < p.rule.boxes
  pub heard : Admitted p k b s

-- v stands in a slip that is read: the box's own, or that of a box that it heard
abbrev pub Read : {V : Type 0} → Slip V → ℕ → List (Slip V) → V → Type 0
Read {V} slip s table v = Stands v (setups_of_slip slip) ⊎ ((j : ℕ) × (other : Slip V) × (has s j ≡ true) × (slip_at table j ≡ Some other) × Stands v (setups_of_slip other))

-- two tables have the same slips at the boxes of the set
abbrev pub Alike : {V : Type 0} → ℕ → List (Slip V) → List (Slip V) → Type 0
Alike s t u = (j : ℕ) → has s j ≡ true → slip_at t j ≡ slip_at u j

-- the first `phases` phases of a run: it has a proposal for each box, and heard sets of the roster that each beat admits
pub record Course {V : Type 0} (p : Protocol V) (proposals : List V) (heard : ℕ → ℕ → List ℕ) (phases : ℕ) : Type 0 where
  pub proposed : length proposals ≡ p.rule.boxes
  pub few : phases ≤ last + 1
  pub admitted : (k b : ℕ) → k < phases → b < p.beats → AllAdmitted p k b (heard k b)

-- the table when phase k has ended
abbrev pub ended : {V : Type 0} → Protocol V → List V → (ℕ → ℕ → List ℕ) → ℕ → List (Slip V)
ended p proposals heard k = through p heard (suc k) (opened proposals)

-- all boxes heard one and the same set, and it was clear
abbrev pub OneClear : {V : Type 0} → Protocol V → ℕ → ℕ → List ℕ → Type 0
OneClear p k b heard = (c : ℕ) × (p.clear k b c ≡ true) × (heard ≡ replicate p.rule.boxes c)

-- every one of n boxes holds a setup
abbrev pub AllHold : {V : Type 0} → ℕ → List (Slip V) → Type 0
AllHold {V} n table = (i : ℕ) → i < n → (v : V) × (entry (held table) i ≡ Some v)

pub record Lawful {V : Type 0} (p : Protocol V) : Type 0 where
  -- its quorums are a rule's, and a phase has 1 to 255 beats
  pub ruled : RuleLawful p.rule
  pub some_beats : 1 ≤ p.beats
  pub few_beats : p.beats ≤ 255
  -- no clear set has a stranger, clear sets are admitted, and the whole roster is clear
  pub inside : (k b s : ℕ) → p.clear k b s ≡ true → within p.rule.boxes s ≡ true
  pub admitted : (k b s : ℕ) → k ≤ last → b < p.beats → p.clear k b s ≡ true → p.admits k b s ≡ true
  pub whole : (k b : ℕ) → k ≤ last → b < p.beats → p.clear k b (everyone p.rule.boxes) ≡ true
  -- every setup in a new slip stood in a slip that it read, and the new slip depends on no other slip
  pub origin : (k b i s : ℕ) (slip : Slip V) (table : List (Slip V)) (v : V) → Due p k b i s → Stands v (setups_of_slip (p.next k b i slip s table)) → Read slip s table v
  pub alone : (k b i s : ℕ) (slip : Slip V) (t u : List (Slip V)) → Due p k b i s → Alike s t u → p.next k b i slip s t ≡ p.next k b i slip s u
  -- held becomes news where news is there, and else keeps
  pub follows : (k b i s : ℕ) (slip : Slip V) (table : List (Slip V)) → Due p k b i s → (p.next k b i slip s table).held ≡ option_or (p.next k b i slip s table).news slip.held
  -- cast and news are none except after a phase's last beat
  pub quiet_cast : (k b i s : ℕ) (slip : Slip V) (table : List (Slip V)) → Due p k b i s → b + 1 < p.beats → (p.next k b i slip s table).cast ≡ None
  pub quiet_news : (k b i s : ℕ) (slip : Slip V) (table : List (Slip V)) → Due p k b i s → b + 1 < p.beats → (p.next k b i slip s table).news ≡ None
  -- the casts and news of each phase meet both guards against the casts of all earlier phases
  pub votes : (proposals : List V) (heard : ℕ → ℕ → List ℕ) (k : ℕ) → Course p proposals heard (suc k)
      → Guards p.rule (λ j. casts (ended p proposals heard j)) k (casts (ended p proposals heard k)) (news (ended p proposals heard k))
  -- after two phases in each of whose beats all boxes heard one clear set, all hold
  pub settles : (proposals : List V) (heard : ℕ → ℕ → List ℕ) (k : ℕ) → Course p proposals heard (suc (suc k))
      → ((b : ℕ) → b < p.beats → OneClear p k b (heard k b)) → ((b : ℕ) → b < p.beats → OneClear p (suc k) b (heard (suc k) b))
      → AllHold p.rule.boxes (ended p proposals heard (suc k))
