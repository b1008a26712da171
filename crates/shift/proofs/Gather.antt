-- Numbers gathered from pieces, one at a time. Assumes nothing.
use Rattle.std.proofs.Common.{◌≡◌, ℕ, ◌+◌, ◌<◌, ◌≤◌, Bool, true, false, cond, ltb, leb, List, [], ◌∷◌, ◌++◌, length, take, drop, Some, None, Option, sym, refl, ap, ◌∙◌, append_assoc, append-nil, arith, length-append, length-take-le}
use Rattle.std.proofs.lemmas.List.{drop_more, drop_all, length_push}
use Rattle.std.proofs.lemmas.Bool.{le-leb, lt-leb, ltb-false, cond-true, cond-false}
use Rattle.std.proofs.lemmas.Iterator.{YieldsList}
use Rattle.std.proofs.lemmas.Iterator.Consumers.{YieldsList-turn, YieldsList-end}
use Rattle.std.specs.Iterator.{Yields}
use Rattle.std.specs.Option.{option_map}
use Rattle.shift.specs.Lists.{added, followed, each}
use Rattle.shift.specs.Numbers.{number}

pub at_most_32 : (items : List ℕ) (count : ℕ) → length items ≡ 32 → count ≤ 32 → length (take count items) ≤ 32
at_most_32 items count long room = omega (arith, length-take-le count items (omega arith))

-- the numbers xs, and after them those of the pieces
abbrev pub gathered : List ℕ → List (List ℕ) → Option (List ℕ)
gathered xs ps = cond (leb (length xs + length ps) 32) (option_map (λ ns. xs ++ ns) (each ps)) None

regroup : (xs : List ℕ) (n : ℕ) (o : Option (List ℕ)) → option_map (λ ns. xs ++ ns) (option_map (λ l. n ∷ l) o) ≡ option_map (λ ns. (xs ++ n ∷ []) ++ ns) o
regroup xs n None = refl
regroup xs n (Some l) = ap Some (sym (append_assoc xs (n ∷ []) l))

nothing : (t : Bool) → cond {A = Option (List ℕ)} t None None ≡ None
nothing true = refl
nothing false = refl

taken_full : {l ys : List ℕ} (t : Bool) → cond t (Some l) None ≡ Some ys → l ≡ ys
taken_full true h = cc
taken_full false h = cc

refused_full : (l : List ℕ) (t : Bool) → cond t (Some l) None ≡ None → t ≡ false
refused_full l true h = cc
refused_full l false h = refl

module _ (xs : List ℕ) (p : List ℕ) (ps : List (List ℕ)) where
  taken_by : (o : Option ℕ) (ys : List ℕ) → o ≡ number p → added xs o ≡ Some ys → gathered xs (p ∷ ps) ≡ gathered ys ps
  taken_by (Some n) ys e h =
      let is : xs ++ n ∷ [] ≡ ys = taken_full (ltb (length xs) 32) h in
      let long : length xs + length (p ∷ ps) ≡ length ys + length ps = omega (arith, ap length is, length-append xs (n ∷ [])) in
      let rest : option_map (λ ns. xs ++ ns) (each (p ∷ ps)) ≡ option_map (λ ns. ys ++ ns) (each ps) = ap (λ o. option_map (λ ns. xs ++ ns) (followed o (each ps))) (sym e) ∙ regroup xs n (each ps) ∙ ap (λ l. option_map (λ ns. l ++ ns) (each ps)) is in
      ap (λ k. cond (leb k 32) (option_map (λ ns. xs ++ ns) (each (p ∷ ps))) None) long ∙ ap (λ r. cond (leb (length ys + length ps) 32) r None) rest
  taken_by None ys e h = cc

  pub taken : (ys : List ℕ) → added xs (number p) ≡ Some ys → gathered xs (p ∷ ps) ≡ gathered ys ps
  taken ys h = taken_by (number p) ys refl h

  refused_by : (o : Option ℕ) → o ≡ number p → added xs o ≡ None → gathered xs (p ∷ ps) ≡ None
  refused_by None e h =
      ap (λ o. cond (leb (length xs + length (p ∷ ps)) 32) (option_map (λ ns. xs ++ ns) (followed o (each ps))) None) (sym e) ∙ nothing (leb (length xs + length (p ∷ ps)) 32)
  refused_by (Some n) e h =
      let over : 32 < length xs + length (p ∷ ps) = omega (arith, ltb-false (length xs) 32 (refused_full (xs ++ n ∷ []) (ltb (length xs) 32) h)) in
      cond-false _ _ None (lt-leb _ 32 over)

  pub refused : added xs (number p) ≡ None → gathered xs (p ∷ ps) ≡ None
  refused h = refused_by (number p) refl h

-- the loop over the pieces, as an iterator gives them: those that were seen are read
module _ {S A : Type 0} {steps : S → Option A → S → Type 0} {v : A → List ℕ} {s : S} (xs : List ℕ) (all : List (List ℕ)) (r : Option (List ℕ)) (road : YieldsList steps v s all) (seen : List A) (t u : S) (y : Yields steps s seen t) (inv : gathered xs (drop (length seen) all) ≡ r) where
  next : (o : Option A) (x : A) → o ≡ Some x → steps t o u → gathered xs (v x ∷ drop (length seen + 1) all) ≡ r
  next o x e h =
      let at = YieldsList-turn road seen t y o u x e h in
      sym (ap (gathered xs) (drop_more all (length seen) (v x) at.0 ∙ ap (λ q. q ∷ drop (length seen + 1) all) (sym at.1))) ∙ inv

  pub goes_on : (o : Option A) (x : A) → o ≡ Some x → steps t o u → (ys : List ℕ) → Some ys ≡ added xs (number (v x)) → gathered ys (drop (length (seen ++ x ∷ [])) all) ≡ r
  goes_on o x e h ys read =
      ap (λ n. gathered ys (drop n all)) (length_push seen x) ∙ sym (taken xs (v x) (drop (length seen + 1) all) ys (sym read)) ∙ next o x e h

  pub ends : (o : Option A) (x : A) → o ≡ Some x → steps t o u → None ≡ added xs (number (v x)) → None ≡ r
  ends o x e h read = sym (refused xs (v x) (drop (length seen + 1) all) (sym read)) ∙ next o x e h

  pub closes : (o : Option A) → o ≡ None → steps t o u → length xs ≤ 32 → Some xs ≡ r
  closes o e h fits =
      let all_seen = YieldsList-end road seen t y o u e h in
      let over : length all ≤ length seen = omega (arith, all_seen.1) in
      let room : length xs + 0 ≤ 32 = omega arith in
      ap Some (sym (append-nil xs)) ∙ sym (cond-true (leb (length xs + 0) 32) (Some (xs ++ [])) None (le-leb _ 32 room)) ∙ sym (ap (gathered xs) (drop_all (length seen) all over)) ∙ inv
