-- Setups read one line at a time. Assumes nothing.
use Rattle.std.proofs.Common.{◌≡◌, ℕ, suc, ◌+◌, ◌-◌, ◌<◌, ◌≤◌, Bool, true, false, cond, leb, ltb, List, [], ◌∷◌, ◌++◌, length, Some, None, Ok, Err, codes, Result, sym, refl, ap, ◌∙◌, append_assoc, append-nil, arith, length-append}
use Rattle.std.proofs.lemmas.Bool.{cond-true, le-leb}
use Rattle.shift.specs.declared.faults.Cause.TheVariants.{Long}
use Rattle.shift.specs.declared.faults.TextFault.{TextFault}
use Rattle.shift.specs.Entries.{after}
use Rattle.shift.specs.Faults.{at_line}
use Rattle.shift.specs.Lines.{longest, unless_long}
use Rattle.shift.specs.Lists.{extended}
use Rattle.shift.specs.Numbers.{number}
use Rattle.shift.specs.Told.{told, and_then}
use Rattle.office.specs.Heads.{field, past, setups}

-- the numbers xs before those of an answer
abbrev pub after_these : List ℕ → Result (List ℕ) TextFault → Result (List ℕ) TextFault
after_these xs r = told (λ ss. xs ++ ss) r

regroup : (xs : List ℕ) (s : ℕ) (r : Result (List ℕ) TextFault) → after_these xs (and_then r (λ ss. Ok (s ∷ ss))) ≡ after_these (xs ++ s ∷ []) r
regroup xs s (Ok ss) = ap Ok (sym (append_assoc xs (s ∷ []) ss))
regroup xs s (Err f) = refl

-- the setups that are read of a text, the text as a whole being declined where it is too long
abbrev pub read : List ℕ → ℕ → ℕ → List ℕ → Result (List ℕ) TextFault
read text k n t = unless_long text (setups k n t)

module _ (text : List ℕ) (k n : ℕ) (t : List ℕ) (xs : List ℕ) where
  abbrev this : Result ℕ TextFault
  this = field (codes "setup") number n t

  abbrev more : ℕ → Result (List ℕ) TextFault
  more s = and_then (setups k (n + 1) (after t)) (λ ss. Ok (s ∷ ss))

  one_by : (short : Bool) (s : ℕ) → Ok s ≡ cond short this (Err (at_line Long 1))
      → after_these xs (cond short (setups (suc k) n t) (Err (at_line Long 1))) ≡ after_these (xs ++ s ∷ []) (cond short (setups k (n + 1) (after t)) (Err (at_line Long 1)))
  one_by true s e = ap (λ r. after_these xs (and_then r more)) (sym e) ∙ regroup xs s (setups k (n + 1) (after t))
  one_by false s e = cc

  none_by : (short : Bool) (f : TextFault) → Err f ≡ cond short this (Err (at_line Long 1)) → after_these xs (cond short (setups (suc k) n t) (Err (at_line Long 1))) ≡ Err f
  none_by true f e = ap (λ r. after_these xs (and_then r more)) (sym e)
  none_by false f e = cc

  pub one_setup : (s : ℕ) → Ok s ≡ unless_long text this → after_these xs (read text (suc k) n t) ≡ after_these (xs ++ s ∷ []) (read text k (n + 1) (after t))
  one_setup s e = one_by (leb (length text) longest) s e

  pub no_setup : (f : TextFault) → Err f ≡ unless_long text this → after_these xs (read text (suc k) n t) ≡ Err f
  no_setup f e = none_by (leb (length text) longest) f e

-- a turn of the loop: i of m setups are read
module _ (m i n : ℕ) (text t xs : List ℕ) (whole : Result (List ℕ) TextFault) (h : i < m) (inv : after_these xs (read text (m - i) n t) ≡ whole) where
  again : after_these xs (read text (suc (m - (i + 1))) n t) ≡ whole
  again = let e : suc (m - (i + 1)) ≡ m - i = omega arith in ap (λ k. after_these xs (read text k n t)) e ∙ inv

  pub goes_on : (s : ℕ) → Ok s ≡ unless_long text (field (codes "setup") number n t) → after_these (xs ++ s ∷ []) (read text (m - (i + 1)) (n + 1) (after t)) ≡ whole
  goes_on s e = sym (one_setup text (m - (i + 1)) n t xs s e) ∙ again

  pub stops : (f : TextFault) → Err f ≡ unless_long text (field (codes "setup") number n t) → Err f ≡ whole
  stops f e = sym (no_setup text (m - (i + 1)) n t xs f e) ∙ again

-- the same of what is left
pub past_more : (m i : ℕ) (t : List ℕ) → i < m → past (m - i) t ≡ past (m - (i + 1)) (after t)
past_more m i t h = let k : m - i ≡ suc (m - (i + 1)) = omega arith in ap (λ n. past n t) k

-- a list that takes one more number
taken_by : (xs ys : List ℕ) (n : ℕ) (t : Bool) → Some ys ≡ cond t (Some (xs ++ n ∷ [])) None → ys ≡ xs ++ n ∷ []
taken_by xs ys n true e = cc
taken_by xs ys n false e = cc

pub one_after : (xs ys : List ℕ) (n : ℕ) → Some ys ≡ extended xs n → ys ≡ xs ++ n ∷ []
one_after xs ys n e = taken_by xs ys n (ltb (length xs) 32) e

pub one_longer_after : (xs ys : List ℕ) (n : ℕ) → Some ys ≡ extended xs n → length ys ≡ length xs + 1
one_longer_after xs ys n e = omega (arith, ap length (one_after xs ys n e), length-append xs (n ∷ []))

-- where all are read
pub all_read : (text : List ℕ) (n : ℕ) (t xs : List ℕ) (whole : Result (List ℕ) TextFault) → length text ≤ longest → after_these xs (read text 0 n t) ≡ whole → Ok xs ≡ whole
all_read text n t xs whole short inv = ap Ok (sym (append-nil xs)) ∙ sym (ap (after_these xs) (cond-true (leb (length text) longest) (Ok []) (Err (at_line Long 1)) (le-leb _ _ short))) ∙ inv

-- what a turn of the loop over the setups takes
pub ruleset turns = (goes_on, stops, past_more, one_after, one_longer_after)
