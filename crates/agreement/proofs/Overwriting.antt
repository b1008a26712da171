-- A list that is overwritten from the front, item by item. Assumes nothing.
use Rattle.std.proofs.Common.{◌≡◌, ℕ, zero, suc, ◌+◌, ◌<◌, ◌≤◌, List, [], ◌∷◌, ◌++◌, length, take, set, sym, refl, ap, ◌∙◌, subst, arith}
use Rattle.agreement.specs.Inside.{overwritten, At}

module _ {A : Type 0} where
  taken_length : (i : ℕ) (xs : List A) → length (take i xs ++ []) ≤ i
  taken_length zero xs = omega arith
  taken_length (suc i) [] = omega arith
  taken_length (suc i) (x ∷ xs) = omega (arith, taken_length i xs)

  -- the item that stands at place i of the new list goes to place i
  over_more : (new old : List A) (i : ℕ) (x : A) → At new i x → i < length (overwritten new old i) → set (overwritten new old i) i x ≡ overwritten new old (i + 1)
  over_more [] old i x at lt = absurd (omega (arith, at.inside))
  over_more (n ∷ new) [] zero x at lt = absurd (omega arith)
  over_more (n ∷ new) [] (suc i) x at lt = absurd (omega (arith, taken_length i new))
  over_more (n ∷ new) (o ∷ old) zero x at lt = ap (λ (y : A). y ∷ old) (sym at.is)
  over_more (n ∷ new) (o ∷ old) (suc i) x at lt =
      let next : suc (i + 1) ≡ suc i + 1 = omega arith in
      ap (λ (l : List A). n ∷ l) (over_more new old i x (record { inside = omega (arith, at.inside); is = at.is }) (omega arith)) ∙ ap (overwritten (n ∷ new) (o ∷ old)) next

  -- the same of a list that is so far overwritten
  pub over_next : (new old list : List A) (i : ℕ) (x : A) → list ≡ overwritten new old i → At new i x → i < length list → set list i x ≡ overwritten new old (i + 1)
  over_next new old list i x so_far at lt = ap (λ (l : List A). set l i x) so_far ∙ over_more new old i x at (subst (λ (l : List A). i < length l) so_far lt)

  pub over_all : (new old : List A) (i : ℕ) → length new ≡ length old → length new ≤ i → overwritten new old i ≡ new
  over_all [] [] zero same le = refl
  over_all [] [] (suc i) same le = refl
  over_all [] (o ∷ old) i same le = absurd (omega arith)
  over_all (n ∷ new) [] i same le = absurd (omega arith)
  over_all (n ∷ new) (o ∷ old) zero same le = absurd (omega arith)
  over_all (n ∷ new) (o ∷ old) (suc i) same le = ap (λ (l : List A). n ∷ l) (over_all new old i (omega arith) (omega arith))
