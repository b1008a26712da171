-- The box that a declined beat names, and that there is none where it is taken. Assumes nothing.
use Rattle.std.proofs.Common.{◌≡◌, ℕ, not, List, length, Some, None, Option, Result, ◌==◌, subst}
use Rattle.std.specs.Option.{option_map}
use Rattle.quorum.specs.Boxes.{lowest, IsLowest}
use Rattle.quorum.specs.Refusals.{Does, unless}
use Rattle.quorum.proofs.Lowest.{lowest_is_lowest, none_passes}
use Rattle.quorum.proofs.Refused.{Each, does_ok, each_either, each_err, each_mapped, each_unless, either_none, mapped_none}
use Rattle.agreement.specs.declared.clocks.Clock.{Clock}
use Rattle.agreement.specs.declared.faults.RunFault.{RunFault}
use Rattle.agreement.specs.declared.faults.RunFault.TheVariants as fault
use Rattle.agreement.specs.declared.slips.Slip.{Slip}
use Rattle.agreement.specs.Calls.{closed, estranged, no_beat, other_lengths, BeatsNaming, FirstStranger}
use Rattle.agreement.specs.Protocols.{Protocol}

-- the fault names the lowest stranger, if it is for one
abbrev Named : ℕ → List ℕ → RunFault → Type 0
Named n heard (fault.Rule f) = Unit {0}
Named n heard fault.NoBox = Unit {0}
Named n heard (fault.Length rank) = Unit {0}
Named n heard fault.Closed = Unit {0}
Named n heard (fault.Stranger i) = IsLowest (estranged n heard) n (Some i)
Named n heard (fault.Wait i) = Unit {0}

-- so does every reason to decline a beat
named : {V : Type 0} (p : Protocol V) (c : Clock) (table sheet : ℕ) (heard : List ℕ) (waiting : Option ℕ) → Each (Named p.rule.boxes heard) (no_beat p c table sheet heard waiting)
named p c table sheet heard waiting =
    let n = p.rule.boxes in
    let P = Named n heard in
    each_either P _ _
    (each_either P _ _ (each_unless P (table == n) (fault.Length 1) tt)
    (each_either P _ _ (each_unless P (sheet == n) (fault.Length 2) tt) (each_unless P (length heard == n) (fault.Length 3) tt)))
    (each_either P _ _ (each_unless P (not (closed c)) fault.Closed tt)
    (each_either P _ _
    (each_mapped P fault.Stranger (lowest (estranged n heard) n) (λ i e. subst (IsLowest (estranged n heard) n) e (lowest_is_lowest (estranged n heard) n)))
    (each_mapped P fault.Wait waiting (λ i e. tt))))

-- where there is no reason to decline a beat, no heard set has a stranger
no_stranger : {V : Type 0} (p : Protocol V) (c : Clock) (table sheet : ℕ) (heard : List ℕ) (waiting : Option ℕ) → no_beat p c table sheet heard waiting ≡ None
    → IsLowest (estranged p.rule.boxes heard) p.rule.boxes None
no_stranger p c table sheet heard waiting e =
    let n = p.rule.boxes in
    let a = either_none (other_lengths n table sheet (length heard)) _ e in
    let b = either_none (unless (not (closed c)) fault.Closed) _ a.1 in
    let d = either_none (option_map fault.Stranger (lowest (estranged n heard) n)) _ b.1 in
    none_passes (estranged n heard) n (mapped_none fault.Stranger (lowest (estranged n heard) n) d.0)

pub first_stranger : {V : Type 0} (p : Protocol V) (c : Clock) (table sheet : List (Slip V)) (heard : List ℕ) (waiting : Option ℕ) (answer : Result (Unit {0}) RunFault)
    (next : Clock) (after copy : List (Slip V)) → BeatsNaming waiting p c table sheet heard answer next after copy → FirstStranger p.rule.boxes heard answer
first_stranger p c table sheet heard waiting answer next after copy h =
    let reason = no_beat p c (length table) (length sheet) heard waiting in record {
      declined = λ i e. each_err (Named p.rule.boxes heard) reason _ _ (fault.Stranger i) (named p c (length table) (length sheet) heard waiting) (subst (Does reason _ _) e h);
      taken = λ e. no_stranger p c (length table) (length sheet) heard waiting (does_ok reason _ _ tt (subst (Does reason _ _) e h)).0;
    }
