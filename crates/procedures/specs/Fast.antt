-- Fast: each phase is one beat, in which the boxes send what they stand for. Assumes nothing.
use Rattle.std.specs.Prelude.{◌≡◌, ℕ, Bool, true, cond, List, Some, Option, bit_or}
use Rattle.std.specs.Option.{option_or, unwrap_or}
use Rattle.quorum.specs.Rules.{Family}
use Rattle.agreement.specs.declared.slips.Slip.{Slip}
use Rattle.agreement.specs.Protocols.{Protocol}
use Rattle.agreement.specs.Slips.{turned}
use Rattle.procedures.specs.Received.{backed, most_often, own, received, senders, unheard}

-- what a box that heard a clear set votes for: a setup whose senders together with the boxes not heard are a quorum, and else the smallest of those most often received
abbrev pub favourite : {V : Type 0} → Family → (V → V → Bool) → ℕ → List (Option V) → Option V
favourite f before heard owns = option_or (backed f before (unheard f.boxes heard) owns) (most_often before owns)

-- Where a clear set was heard there is at most one setup whose senders together with the boxes not heard are a quorum.
pub record AtMostOne {V : Type 0} (f : Family) (before : V → V → Bool) (clear : ℕ → Bool) (heard : ℕ) (owns : List (Option V)) : Type 0 where
  pub one : clear heard ≡ true → (v w : V) → f.quorum (bit_or (senders before v owns) (unheard f.boxes heard)) ≡ true
      → f.quorum (bit_or (senders before w owns) (unheard f.boxes heard)) ≡ true → v ≡ w

-- It casts what it stood for; what a quorum sent is news; and where it heard a clear set it stands for the favourite.
abbrev pub polled : {V : Type 0} → Family → (V → V → Bool) → (ℕ → Bool) → ℕ → List (Option V) → Slip V → Slip V
polled f before clear heard owns slip =
    record (turned (Some slip.own) (backed f before 0 owns) slip) { own = cond (clear heard) (unwrap_or (favourite f before heard owns) slip.own) slip.own }

abbrev pub fast : {V : Type 0} → (V → V → Bool) → Family → (ℕ → Bool) → Protocol V
fast before f clear = record {
  rule = f;
  beats = 1;
  admits = λ k b s. true;
  clear = λ k b s. clear s;
  next = λ k b i slip s table. polled f before clear s (received own table s) slip;
}
