-- Calls in turn. Assumes nothing.
use Rattle.std.proofs.Common.{◌≡◌, ℕ, suc, ◌+◌, List, Some, None, Ok, Option, Result, length, subst, arith}
use Rattle.quorum.specs.declared.refusals.RuleFault.{RuleFault}
use Rattle.quorum.specs.Refusals.{Does}
use Rattle.agreement.specs.declared.clocks.Clock.{Clock}
use Rattle.agreement.specs.declared.faults.RunFault.{RunFault}
use Rattle.agreement.specs.declared.slips.Slip.{Slip}
use Rattle.agreement.specs.Calls.{beginning, no_opening}
use Rattle.agreement.specs.Protocols.{Protocol}
use Rattle.agreement.specs.Slips.{opened}
use Rattle.procedures.specs.Licence.{OpensOrNot}
use Rattle.exports.specs.InTurn.{InTurn}
use Rattle.exports.specs.Runs.{RunsAsked, RunsOr, Works}

module _ {S : Type 0} (step : ℕ → S → S → Type 0) (s : S) where
  -- one step more
  pub one_more : (k : ℕ) (m t : S) → InTurn step s k m → step k m t → InTurn step s (k + 1) t
  one_more k m t so_far more =
      let next : suc k ≡ k + 1 = omega arith in
      subst (λ (j : ℕ). InTurn step s j t) next (m, so_far, more)

  -- all steps
  pub in_all : (j k : ℕ) (t : S) → j ≡ k → InTurn step s j t → InTurn step s k t
  in_all j k t same w = subst (λ (n : ℕ). InTurn step s n t) same w

module _ (p : Protocol ℕ) (each : ℕ) (heard proposals : List ℕ) (table sheet opening : List (Slip ℕ)) (first : Clock) (answer : Result (Unit {0}) RunFault) (table' sheet' : List (Slip ℕ)) where
  -- a run that was opened, and then worked
  pub opened_runs : (o : Option RunFault) → Does o (λ c. (c ≡ beginning) × (opening ≡ opened proposals)) (opening ≡ table) (Ok first) → Works p each heard first opening sheet answer table' sheet' → RunsOr o p proposals each heard table sheet answer table' sheet'
  opened_runs None opens w =
      subst (λ (c : Clock). Works p each heard c (opened proposals) sheet answer table' sheet') opens.0
      (subst (λ (l : List (Slip ℕ)). Works p each heard first l sheet answer table' sheet') opens.1 w)
  opened_runs (Some f) opens w = absurd opens

  -- the same of the standard licence
  pub licensed_runs : (o : Option RuleFault) → OpensOrNot o p proposals table (Ok first) opening → Works p each heard first opening sheet answer table' sheet' → RunsAsked o p proposals each heard table sheet answer table' sheet'
  licensed_runs None opens w = opened_runs (no_opening p.rule.boxes (length proposals) (length table)) opens w
  licensed_runs (Some f) opens w = cc
