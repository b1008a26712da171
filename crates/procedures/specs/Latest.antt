-- Latest: a phase is three beats, and a box that hears a quorum picks the setup of the latest vote that it hears of. Assumes nothing.
use Rattle.std.specs.Prelude.{ℕ, zero, suc, Bool, true, cond, List, Some, None, Option}
use Rattle.std.specs.Option.{option_map, option_or, unwrap_or}
use Rattle.quorum.specs.Rules.{Family}
use Rattle.setup.specs.Kinds.{dated_before}
use Rattle.setup.specs.Rows.{first}
use Rattle.agreement.specs.declared.slips.Slip.{Slip}
use Rattle.agreement.specs.Protocols.{Protocol}
use Rattle.agreement.specs.Slips.{quiet, turned}
use Rattle.procedures.specs.Received.{backed, dated, own, pick, received, say, smallest}

-- the setup of the first dated vote received: of the latest one
abbrev pub latest_vote : {V : Type 0} → (V → V → Bool) → List (Option (ℕ × V)) → Option V
latest_vote before votes = option_map (λ d. d.1) (first (dated_before before) votes)

-- it stands for v, and if it heard a quorum it picks the setup of the latest vote, or v where there is no vote
abbrev pub picking : {V : Type 0} → Family → (V → V → Bool) → ℕ → List (Option (ℕ × V)) → V → Slip V → Slip V
picking f before heard votes v slip = record (quiet slip) { own = v; pick = cond (f.quorum heard) (Some (unwrap_or (latest_vote before votes) v)) None }

-- in beat 0 it stands for the smallest setup received
abbrev pub picked : {V : Type 0} → Family → (V → V → Bool) → ℕ → List (Option V) → List (Option (ℕ × V)) → Slip V → Slip V
picked f before heard owns votes slip = picking f before heard votes (unwrap_or (smallest before owns) slip.own) slip

-- ready to vote for the setup, if there is one, in phase k: that is its dated vote then
abbrev pub readied : {V : Type 0} → ℕ → Option V → Slip V → Slip V
readied k ready slip = record (quiet slip) { say = ready; dated = option_or (option_map (λ v. (k, v)) ready) slip.dated }

-- it casts what it was ready to vote for, and what a quorum said is news
abbrev pub voted : {V : Type 0} → Family → (V → V → Bool) → List (Option V) → Slip V → Slip V
voted f before says slip = turned slip.say (backed f before 0 says) slip

-- beat by beat: in beat 1 it is ready to vote for what a quorum picked
abbrev pub next : {V : Type 0} → Family → (V → V → Bool) → ℕ → ℕ → ℕ → List (Slip V) → Slip V → Slip V
next f before k zero heard table slip = picked f before heard (received own table heard) (received dated table heard) slip
next f before k (suc zero) heard table slip = readied k (backed f before 0 (received pick table heard)) slip
next f before k (suc (suc b)) heard table slip = voted f before (received say table heard) slip

abbrev pub latest : {V : Type 0} → (V → V → Bool) → Family → Protocol V
latest before f = record {
  rule = f;
  beats = 3;
  admits = λ k b s. true;
  clear = λ k b s. f.quorum s;
  next = λ k b i slip s table. next f before k b s table slip;
}
