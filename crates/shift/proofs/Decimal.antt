-- Digits read one at a time. Assumes nothing.
use Rattle.std.proofs.Common.{◌≡◌, ℕ, ◌+◌, ◌^◌, ◌<◌, ◌≤◌, Bool, true, false, cond, ltb, List, [], ◌∷◌, length, get_or, drop, Some, None, Option, sym, refl, ap, ◌∙◌, arith}
use Rattle.std.proofs.lemmas.List.{drop_more}
use Rattle.std.proofs.lemmas.Bool.{le-ltb, ltb-false, cond-false}
use Rattle.shift.specs.Classes.{digit}
use Rattle.shift.specs.Numbers.{appended, worth, digits, led, fitting, number}

-- what the bytes give, written after n
abbrev pub read : ℕ → List ℕ → Option ℕ
read n bs = cond (digits bs) (fitting (worth n bs)) None

worth_above : (n : ℕ) (bs : List ℕ) → n ≤ worth n bs
worth_above n [] = omega arith
worth_above n (b ∷ bs) = let h = worth_above (appended n b) bs in omega arith

over : (n : ℕ) (bs : List ℕ) → 2 ^ 32 ≤ n → read n bs ≡ None
over n bs h =
    let big : 2 ^ 32 ≤ worth n bs = omega (arith, worth_above n bs) in
    ap (λ x. cond (digits bs) x None) (cond-false (ltb (worth n bs) (2 ^ 32)) (Some (worth n bs)) None (le-ltb _ _ big)) ∙ elim (digits bs) as (λ t. cond {A = Option ℕ} t None None ≡ None) [ true ↦ refl | false ↦ refl ]

module _ (n : ℕ) (bs : List ℕ) (i : ℕ) where
  abbrev b : ℕ
  b = get_or bs i 0

  stops_by : (t u : Bool) → t ≡ digit b → u ≡ ltb (appended n b) (2 ^ 32) → None ≡ cond t (cond u (Some (appended n b)) None) None → read n (b ∷ drop (i + 1) bs) ≡ None
  stops_by true true d f e = cc
  stops_by true false d f e = rw (sym d) (over (appended n b) (drop (i + 1) bs) (ltb-false _ _ (sym f)))
  stops_by false u d f e = rw (sym d)

  pub stops : i < length bs → None ≡ cond (digit b) (fitting (appended n b)) None → read n (drop i bs) ≡ None
  stops h e = ap (read n) (drop_more bs i 0 h) ∙ stops_by (digit b) (ltb (appended n b) (2 ^ 32)) refl refl e

-- a number is what its bytes give after 0, if it has no leading 0
pub number_read : (bs : List ℕ) → led bs ≡ true → number bs ≡ read 0 bs
number_read bs h = rw h

-- what the loop over the digits takes where it stops
pub ruleset reading = (stops, number_read)
