-- The two parts of a text, at the first byte that passes a test. Assumes nothing.
use Rattle.std.proofs.Common.{◌≡◌, ℕ, ◌+◌, Bool, true, List, ◌∷◌, ◌++◌, get_or, take, drop, Some, None, Option, sym, refl, ap, ◌∙◌, take-append-drop}
use Rattle.std.proofs.lemmas.List.{drop_more}
use Rattle.std.proofs.lemmas.List.Quantifiers.{position-Some}
use Rattle.std.specs.List.{position}
use Rattle.std.specs.Option.{option_map}
use Rattle.shift.specs.Parts.{parted}

pub same_pair : (x y : List ℕ × List ℕ) → Some x ≡ Some y → x ≡ y
same_pair x y e = cc

-- the text is the two parts, with a byte between that passes
module _ (test : ℕ → Bool) (bs p q : List ℕ) where
  joins_by : (o : Option ℕ) → o ≡ position test bs → option_map {U = List ℕ × List ℕ} (λ i. (take i bs, drop (i + 1) bs)) o ≡ Some (p, q) → (b : ℕ) × (bs ≡ p ++ b ∷ q) × (test b ≡ true)
  joins_by None e h = absurd (cc)
  joins_by (Some i) e h =
      let at = position-Some test bs i 0 (sym e) in
      let whole = sym (take-append-drop i bs) ∙ ap (λ l. take i bs ++ l) (drop_more bs i 0 at.0) in
      (get_or bs i 0, whole ∙ ap (λ (r : List ℕ × List ℕ). r.0 ++ get_or bs i 0 ∷ r.1) (same_pair _ _ h), at.1)

  pub joins : parted test bs ≡ Some (p, q) → (b : ℕ) × (bs ≡ p ++ b ∷ q) × (test b ≡ true)
  joins h = joins_by (position test bs) refl h
