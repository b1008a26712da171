-- What the calls tell. Assumes nothing.
use Rattle.std.proofs.Common.{◌≡◌, ℕ, zero, suc, ◌+◌, ◌*◌, ◌≤◌, Bool, true, false, cond, List, [], ◌∷◌, ◌++◌, length, map, replicate, take, drop, Some, None, Ok, Err, Option, Result, refl, sym, ap, ◌∙◌, subst, arith}
use mir.Val.{bool_byte}
use Rattle.std.proofs.lemmas.List.{length-append, length-take, length-take-le}
use Rattle.quorum.specs.declared.refusals.RuleFault.{RuleFault}
use Rattle.quorum.specs.declared.chosen.ChosenRule.{ChosenRule}
use Rattle.quorum.specs.Chosen.{clear_of, family_of}
use Rattle.quorum.specs.Refusals.{Answers, of_rule}
use Rattle.quorum.specs.Rules.{Family}
use Rattle.agreement.specs.declared.faults.RunFault.{RunFault}
use Rattle.agreement.specs.declared.slips.Slip.{Slip}
use Rattle.agreement.specs.Protocols.{Protocol}
use Rattle.agreement.specs.Slips.{opening}
use Rattle.exports.specs.declared.flat.FlatSlip.{FlatSlip}
use Rattle.exports.specs.Flat.{flat_fault, flat_slip}
use Rattle.exports.specs.Told.{answers_or, blank, lent, slips_written_over}
use Rattle.exports.specs.Runs.{RunsAsked}

-- a number made of an answer
pub bit : (b q : Bool) (n : ℕ) → n ≡ bool_byte b → b ≡ q → n ≡ cond q 1 0
bit true q n made is = made ∙ ap (λ (b : Bool). cond b 1 0) is
bit false q n made is = made ∙ ap (λ (b : Bool). cond b 1 0) is

-- a rule that was made answers for the rule that was asked for
pub made_tells : (o : Option RuleFault) (f : Family) (clear : ℕ → Bool) (rule : ChosenRule) (set q c : ℕ) → Answers o (λ x. (family_of x ≡ f) × (clear_of x ≡ clear)) (Ok rule)
    → q ≡ cond ((family_of rule).quorum set) 1 0 → c ≡ cond (clear_of rule set) 1 0 → q + 2 * c ≡ answers_or o (f.quorum set) (clear set)
made_tells None f clear rule set q c is a b =
    (λ i. a i + 2 * b i) ∙ ap (λ n. cond ((family_of rule).quorum set) 1 0 + n) (twice (clear_of rule set))
    ∙ (λ i. cond ((is.0 i).quorum set) 1 0 + cond (is.1 i set) 2 0)
  where
    twice : (b : Bool) → 2 * cond b 1 0 ≡ cond b 2 0
    twice true = refl
    twice false = refl
made_tells (Some g) f clear rule set q c is a b = absurd is

pub fault_tells : (o : Option RuleFault) (P : ChosenRule → Type 0) (g : RuleFault) (q c : Bool) → Answers o P (Err g) → flat_fault (of_rule g) ≡ answers_or o q c
fault_tells None P g q c is = absurd is
fault_tells (Some h) P g q c is = ap (λ f. flat_fault (of_rule f)) is

front : {A : Type 0} (n : ℕ) (xs rest : List A) → length xs ≡ n → take n (xs ++ rest) ≡ xs
front zero [] rest same = refl
front zero (x ∷ xs) rest same = absurd (omega arith)
front (suc n) [] rest same = absurd (omega arith)
front (suc n) (x ∷ xs) rest same = ap (λ l. x ∷ l) (front n xs rest (omega arith))

-- ---- a run

-- what a run is lent is there, and so is what it leaves
pub lent_room : (k n : ℕ) (slips : List (Slip ℕ)) → n ≡ lent k → slips ≡ replicate 40 (opening 0) → n ≤ length slips
lent_room k n slips all is = omega (arith, all, ap length is)

pub left_room : {A : Type 0} (n : ℕ) (xs rest : List A) → length xs ≡ n → n ≤ length (xs ++ rest)
left_room n xs rest same = omega (arith, length-append xs rest)

pub front_within : {A : Type 0} (n k : ℕ) (xs : List A) → n ≤ k → length (take n xs) ≤ k
front_within n k xs le = omega (arith, length-take n xs)

-- what a run is lent, as the code has it
pub lent_slips : (k n : ℕ) (slips : List (Slip ℕ)) → n ≡ lent k → slips ≡ replicate 40 (opening 0) → take n slips ≡ blank k
lent_slips k n slips all is = (λ i. take (all i) (is i))

lent_few : (k : ℕ) → lent k ≤ 40
lent_few k = omega arith

blank_length : (k : ℕ) → length (blank k) ≡ lent k
blank_length k = length-take-le (lent k) (replicate 40 (opening 0)) (lent_few k)

module _ (k n : ℕ) (slips rest : List (Slip ℕ)) (all : n ≡ lent k) (same : length slips ≡ length (blank k)) where
  long : length slips ≡ n
  long = same ∙ blank_length k ∙ sym all

  -- slips that were lent come back as they are told
  pub slips_tell : (old new : List FlatSlip) → k ≡ length old → new ≡ map flat_slip (take n (slips ++ rest)) ++ drop (length (take n (slips ++ rest))) old → new ≡ slips_written_over slips old
  slips_tell old new of is =
      is ∙ ap (λ (l : List (Slip ℕ)). map flat_slip l ++ drop (length l) old) (front n slips rest long) ∙ ap (λ (j : ℕ). map flat_slip slips ++ drop j old) (long ∙ all ∙ ap lent of)

-- a run that was lent slips is told of the slips that it was lent
pub run_tells : (o : Option RuleFault) (p : Protocol ℕ) (proposals : List ℕ) (each : ℕ) (heard : List ℕ) (table sheet blank_table blank_sheet : List (Slip ℕ)) (answer : Result (Unit {0}) RunFault) (table' sheet' : List (Slip ℕ))
    → table ≡ blank_table → sheet ≡ blank_sheet → RunsAsked o p proposals each heard table sheet answer table' sheet' → RunsAsked o p proposals each heard blank_table blank_sheet answer table' sheet'
run_tells o p proposals each heard table sheet blank_table blank_sheet answer table' sheet' t s runs =
    subst (λ (l : List (Slip ℕ)). RunsAsked o p proposals each heard l blank_sheet answer table' sheet') t
    (subst (λ (l : List (Slip ℕ)). RunsAsked o p proposals each heard table l answer table' sheet') s runs)
