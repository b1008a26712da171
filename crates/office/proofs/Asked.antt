-- The procedure that a text asks for keeps the laws, and its head proposes a setup for each box. Assumes nothing.
use Rattle.std.proofs.Common.{◌≡◌, ℕ, zero, suc, ◌+◌, ◌*◌, Bool, true, false, cond, ◌&&◌, List, [], ◌∷◌, length, Some, None, Ok, Err, codes, Option, Result, leb, ltb, sym, refl, ap, ◌∙◌, subst, arith}
use Rattle.std.proofs.lemmas.Bool.{and_from, and_parts, le-leb, leb-true, lt-ltb}
use Rattle.quorum.specs.declared.refusals.RuleFault.{RuleFault}
use Rattle.quorum.specs.declared.refusals.RuleFault.TheVariants as fault
use Rattle.quorum.specs.Families.{anchored, majority, thirds}
use Rattle.quorum.specs.Fitting.{sizes_clear, sizes_lawful}
use Rattle.quorum.specs.Laws.{anchored_lawful, majority_lawful, present_clear}
use Rattle.quorum.specs.Making.{fit, no_roster}
use Rattle.quorum.specs.Rules.{ClearLawful, Lawful as RuleLawful, Roster}
use Rattle.quorum.proofs.Somes.{some_none}
use Rattle.agreement.specs.Laws.{Lawful}
use Rattle.shift.specs.declared.faults.Spot.{Spot}
use Rattle.shift.specs.declared.faults.TextFault.{TextFault}
use Rattle.shift.specs.declared.names.ProcedureName.{ProcedureName}
use Rattle.shift.specs.declared.names.RuleName.{RuleName}
use Rattle.shift.specs.declared.names.RuleName.TheVariants as rule
use Rattle.shift.specs.Entries.{after}
use Rattle.shift.specs.Lines.{due}
use Rattle.shift.specs.Names as names
use Rattle.shift.specs.Numbers.{number}
use Rattle.shift.specs.Told.{and_then}
use Rattle.office.specs.Heads.{Begun, at_spot, field, head, judged, judged_by, past, roster, setups, valued}
use Rattle.office.specs.Laws.{over_lawful}
use Rattle.office.specs.Named.{asked_for, clear_by, rule_by}
use Rattle.office.proofs.Heads.{asked_boxes}

-- ---- the laws

-- more than two thirds fit, as quorums and as clear sets
thirds_fit : (n : ℕ) → Roster n → fit n (thirds n) (thirds n) ≡ true
thirds_fit n sized =
    let e = thirds n in
    and_from (ltb (2 * n) (2 * e + e)) (leb e e && leb e n) (lt-ltb (2 * n) (2 * e + e) (omega arith))
    (and_from (leb e e) (leb e n) (le-leb e e (omega arith)) (le-leb e n (omega (arith, sized))))

rule_lawful : (r : RuleName) (n : ℕ) → Roster n → RuleLawful (rule_by r n)
rule_lawful rule.Majority n sized = majority_lawful n sized
rule_lawful rule.Thirds n sized = sizes_lawful n (thirds n) (thirds n) sized (thirds_fit n sized)
rule_lawful rule.Anchored n sized = anchored_lawful 0 (majority n) (majority_lawful n sized)

clear_lawful : (r : RuleName) (n : ℕ) → Roster n → ClearLawful (rule_by r n) (clear_by r n)
clear_lawful rule.Majority n sized = present_clear (majority n) (majority_lawful n sized)
clear_lawful rule.Thirds n sized = sizes_clear n (thirds n) (thirds n) (thirds_fit n sized)
clear_lawful rule.Anchored n sized = present_clear (anchored 0 (majority n)) (anchored_lawful 0 (majority n) (majority_lawful n sized))

pub asked_lawful : (r : RuleName) (p : ProcedureName) (n : ℕ) → Roster n → Lawful (asked_for r p n)
asked_lawful r p n sized = over_lawful p (rule_by r n) (clear_by r n) (rule_lawful r n sized) (clear_lawful r n sized)

-- ---- the head

-- where two steps come to a value, the first one does, and the second one on it
then_ok : {X Y E : Type 0} (r : Result X E) (f : X → Result Y E) (y : Y) → and_then r f ≡ Ok y → (x : X) × (r ≡ Ok x) × (f x ≡ Ok y)
then_ok (Ok x) f y e = (x, refl, e)
then_ok (Err g) f y e = cc

-- a roster that is judged to be one is one
roster_from : (n : ℕ) → no_roster n ≡ None → Roster n
roster_from n e = go (leb 1 n && leb n 32) refl e
  where
    go : (b : Bool) → (leb 1 n && leb n 32) ≡ b → cond b None (Some fault.Roster) ≡ None → Roster n
    go true is h = let parts = and_parts (leb 1 n) (leb n 32) is in (leb-true 1 n parts.0, leb-true n 32 parts.1)
    go false is h = absurd (some_none h)

judged_ok : (s : Spot) (b n : ℕ) (o : Option RuleFault) → at_spot s (judged_by b o) ≡ Ok n → (b ≡ n) × (o ≡ None)
judged_ok s b n None e = (cc, refl)
judged_ok s b n (Some f) e = cc

roster_ok : (n : ℕ) (t : List ℕ) (b : ℕ) → roster n t ≡ Ok b → Roster b
roster_ok n t b e =
    let line = then_ok (due (codes "boxes") n t) (λ p. and_then (valued number p) (λ c. at_spot p.2 (judged c))) b e in
    let value = then_ok (valued number line.0) (λ c. at_spot line.0.2 (judged c)) b line.2 in
    let is = judged_ok line.0.2 value.0 b (no_roster value.0) value.2 in
    subst Roster is.0 (roster_from value.0 is.1)

-- so many setups are read as are asked for
setups_length : (k n : ℕ) (t ss : List ℕ) → setups k n t ≡ Ok ss → length ss ≡ k
setups_length zero n t ss e =
    let none : ss ≡ [] = cc in
    ap length none
setups_length (suc k) n t ss e =
    let one = then_ok (field (codes "setup") number n t) (λ s. and_then (setups k (n + 1) (after t)) (λ more. Ok (s ∷ more))) ss e in
    let more = then_ok (setups k (n + 1) (after t)) (λ l. Ok (one.0 ∷ l)) ss one.2 in
    let all : ss ≡ one.0 ∷ more.0 = cc in
    ap length all ∙ ap suc (setups_length k (n + 1) (after t) more.0 more.1)

-- what a head asks for keeps the laws, and it has a setup for each box
pub record Asked (h : Begun) : Type 0 where
  pub lawful : Lawful h.procedure
  pub proposed : length h.proposals ≡ h.procedure.rule.boxes

pub head_asked : (n : ℕ) (t : List ℕ) (h : Begun) → head n t ≡ Ok h → Asked h
head_asked n t h e =
    let boxes = then_ok (roster n t) with_boxes h e in
    let rule = then_ok (field (codes "rule") names.rule (n + 1) (after t)) (with_rule boxes.0) h boxes.2 in
    let procedure = then_ok (field (codes "procedure") names.procedure (n + 2) (after (after t))) (with_procedure boxes.0 rule.0) h rule.2 in
    let proposed = then_ok (setups boxes.0 (n + 3) (after (after (after t)))) (λ ss. Ok (begun boxes.0 rule.0 procedure.0 ss)) h procedure.2 in
    let is : begun boxes.0 rule.0 procedure.0 proposed.0 ≡ h = cc in
    subst Asked is
    (record {
      lawful = asked_lawful rule.0 procedure.0 boxes.0 (roster_ok n t boxes.0 boxes.1);
      proposed = setups_length boxes.0 (n + 3) (after (after (after t))) proposed.0 proposed.1 ∙ sym (asked_boxes rule.0 procedure.0 boxes.0);
    })
  where
    begun : ℕ → RuleName → ProcedureName → List ℕ → Begun
    begun b r p ss = record { procedure = asked_for r p b; proposals = ss; line = n + 3 + b; rest = past b (after (after (after t))) }

    with_procedure : ℕ → RuleName → ProcedureName → Result Begun TextFault
    with_procedure b r p = and_then (setups b (n + 3) (after (after (after t)))) (λ ss. Ok (begun b r p ss))

    with_rule : ℕ → RuleName → Result Begun TextFault
    with_rule b r = and_then (field (codes "procedure") names.procedure (n + 2) (after (after t))) (with_procedure b r)

    with_boxes : ℕ → Result Begun TextFault
    with_boxes b = and_then (field (codes "rule") names.rule (n + 1) (after t)) (with_rule b)
