-- The small procedure Unison: all hear all, and agree on the first setup. Assumes nothing.
use Rattle.std.specs.Prelude.{Bool, Some}
use Rattle.std.specs.Option.{unwrap_or}
use Rattle.quorum.specs.Families.{present}
use Rattle.quorum.specs.Rules.{Family}
use Rattle.setup.specs.Rows.{first}
use Rattle.agreement.specs.declared.slips.Slip.{Slip}
use Rattle.agreement.specs.Protocols.{Protocol}
use Rattle.agreement.specs.Slips.{turned}
use Rattle.procedures.specs.Received.{own, received}

-- the slip that takes the setup, votes for it, and has it as news
abbrev pub agreed : {V : Type 0} → V → Slip V → Slip V
agreed v slip = record (turned (Some v) (Some v) slip) { own = v }

-- it takes the first setup that any box stands for of those that it heard
abbrev pub unison : {V : Type 0} → (V → V → Bool) → Family → Protocol V
unison before f = record {
  rule = f;
  beats = 1;
  admits = λ k b s. present f s;
  clear = λ k b s. present f s;
  next = λ k b i slip s table. agreed (unwrap_or (first before (received own table s)) slip.own) slip;
}
