-- Observing: a phase is two beats, and a box goes on only if it hears a quorum. Assumes nothing.
use Rattle.std.specs.Prelude.{ℕ, zero, suc, Bool, List, Option}
use Rattle.std.specs.Option.{option_or, unwrap_or}
use Rattle.quorum.specs.Rules.{Family}
use Rattle.agreement.specs.declared.slips.Slip.{Slip}
use Rattle.agreement.specs.Protocols.{Protocol}
use Rattle.agreement.specs.Slips.{quiet, turned}
use Rattle.procedures.specs.Received.{own, received, say, smallest, unanimous}

-- beat 0: it stands for the smallest setup received, and is ready to vote for it if all sent it
abbrev pub readied : {V : Type 0} → (V → V → Bool) → ℕ → List (Option V) → Slip V → Slip V
readied before heard owns slip = record (quiet slip) { own = unwrap_or (smallest before owns) slip.own; say = unanimous before heard owns }

-- beat 1: it casts what it was ready to vote for, what all said is news, and it stands for the smallest setup said, or where none was said for the smallest received
abbrev pub observed : {V : Type 0} → (V → V → Bool) → ℕ → List (Option V) → List (Option V) → Slip V → Slip V
observed before heard says owns slip = record (turned slip.say (unanimous before heard says) slip) { own = unwrap_or (option_or (smallest before says) (smallest before owns)) slip.own }

-- beat by beat
abbrev pub next : {V : Type 0} → (V → V → Bool) → ℕ → ℕ → List (Slip V) → Slip V → Slip V
next before zero heard table slip = readied before heard (received own table heard) slip
next before (suc b) heard table slip = observed before heard (received say table heard) (received own table heard) slip

abbrev pub observing : {V : Type 0} → (V → V → Bool) → Family → Protocol V
observing before f = record {
  rule = f;
  beats = 2;
  admits = λ k b s. f.quorum s;
  clear = λ k b s. f.quorum s;
  next = λ k b i slip s table. next before b s table slip;
}
