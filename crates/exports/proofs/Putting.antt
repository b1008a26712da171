-- Lists in another form. Assumes nothing.
use Rattle.std.proofs.Common.{◌≡◌, ℕ, zero, suc, ◌+◌, ◌<◌, ◌≤◌, List, [], ◌∷◌, map, length, slice_index_or, set, refl, sym, ap, ◌∙◌, arith}
use Rattle.agreement.specs.Inside.{At, overwritten}
use Rattle.agreement.proofs.Overwriting.{over_next, over_all}

-- what an item is in its other form stands at its place of the list in the other form
form_at : {A B : Type 0} (f : A → B) (xs : List A) (i : ℕ) (x : A) (y : B) → i < length xs → x ≡ slice_index_or xs i x → y ≡ f x → At (map f xs) i y
form_at f [] i x y lt is made = absurd (omega arith)
form_at f (a ∷ xs) zero x y lt is made = record { inside = omega arith; is = sym (made ∙ ap f is) }
form_at f (a ∷ xs) (suc i) x y lt is made = let r = form_at f xs i x y (omega (arith, lt)) is made in record { inside = omega (arith, r.inside); is = r.is }

map_length : {A B : Type 0} (f : A → B) (xs : List A) → length (map f xs) ≡ length xs
map_length f [] = refl
map_length f (a ∷ xs) = ap suc (map_length f xs)

module _ {A B : Type 0} (f : A → B) where
  -- one item more is put
  pub put_next : (xs : List A) (old room : List B) (i : ℕ) (x : A) (y : B) → room ≡ overwritten (map f xs) old i → i < length room → i < length xs → x ≡ slice_index_or xs i x → y ≡ f x → set room i y ≡ overwritten (map f xs) old (i + 1)
  put_next xs old room i x y so_far within lt is made = over_next (map f xs) old room i y so_far (form_at f xs i x y lt is made) within

  pub put_all : (xs : List A) (old : List B) (i : ℕ) → length xs ≡ length old → length xs ≤ i → overwritten (map f xs) old i ≡ map f xs
  put_all xs old i same le = over_all (map f xs) old i (map_length f xs ∙ same) (omega (arith, map_length f xs, le))
