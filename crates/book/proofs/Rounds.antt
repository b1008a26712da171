-- A test of the rows, one after another. Assumes nothing.
use Rattle.std.proofs.Common.{◌≡◌, ℕ, zero, suc, ◌+◌, ◌<◌, Bool, true, false, List, [], ◌∷◌, ◌++◌, ap, ◌∙◌, ◌⊎◌, Decides, refl, inl, inr, arith}
use Rattle.std.specs.List.{list_any, range_with_len}
use Rattle.std.proofs.lemmas.List.Folds.{list_any-append}
use Rattle.std.proofs.Math.Bool.{or_comm}
use Rattle.std.proofs.lemmas.Bool.{both_ways, cases_Bool, or_from}
use Rattle.std.proofs.lemmas.Bool.Decides.{Decides-below_or}
use Rattle.book.specs.Pages.{some_row}

-- the test of all rows, in words
pub some_row_decides : (test : ℕ → Bool) (m : ℕ) → Decides (some_row test m) ((r : ℕ) × (r < m) × (test r ≡ true))
some_row_decides test m = Decides-below_or test (λ r. test r ≡ true) (some_row test) (λ r. (λ e. e, λ e. e)) refl (λ _. refl) m

-- one number more
range_more : (a n : ℕ) → range_with_len a (suc n) ≡ range_with_len a n ++ (a + n) ∷ []
range_more a zero = let here : a ≡ a + 0 = omega arith in ap (λ (k : ℕ). k ∷ []) here
range_more a (suc n) =
    let last : a + 1 + n ≡ a + suc n = omega arith in
    ap (λ (l : List ℕ). a ∷ l) (range_more (a + 1) n ∙ ap (λ (k : ℕ). range_with_len (a + 1) n ++ k ∷ []) last)

-- the test of all rows, as `any` makes it
pub some_row_any : (test : ℕ → Bool) (m : ℕ) → list_any test (range_with_len 0 m) ≡ some_row test m
some_row_any test zero = refl
some_row_any test (suc m) = ap (list_any test) (range_more 0 m) ∙ list_any-append test (range_with_len 0 m) ((0 + m) ∷ []) ∙ grind (arith, some_row_any test m, or_comm)

-- no row passes
pub some_row_none : (test : ℕ → Bool) (m : ℕ) → ((r : ℕ) → r < m → test r ≡ false) → some_row test m ≡ false
some_row_none test zero none = refl
some_row_none test (suc m) none = or_from (test m) (some_row test m) (none m (omega arith)) (some_row_none test m (λ r lt. none r (omega arith)))

-- and where the test of all rows fails, each fails it
pub some_row_all : (test : ℕ → Bool) (m : ℕ) → some_row test m ≡ false → (r : ℕ) → r < m → test r ≡ false
some_row_all test m e r lt = go (cases_Bool (test r))
  where
    go : (test r ≡ true) ⊎ (test r ≡ false) → test r ≡ false
    go (inl h) = absurd (both_ways (some_row test m) e ((some_row_decides test m).1 (r, lt, h)))
    go (inr h) = h
