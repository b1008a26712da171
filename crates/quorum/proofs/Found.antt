-- The lowest box that passes a test is what the library's `find` gives. Assumes nothing.
use Rattle.std.proofs.Common.{◌≡◌, ℕ, ◌<◌, ◌≤◌, Bool, true, false, Some, None, Option, Bor, sym, arith}
use Rattle.std.specs.Option.{MatchOption}
use Rattle.std.specs.Fn.{CalledAt, Mut}
use Rattle.std.specs.Iterator.{FindsItem}
use Rattle.std.proofs.lemmas.Iterator.{first_from_Range}
use Rattle.std.proofs.iter.Yields.{nat_range_steps}
use Rattle.std.specs.declared.ops.Range.{Range}
use Rattle.quorum.specs.Boxes.{lowest, IsLowest}
use Rattle.quorum.proofs.Lowest.{lowest_is_lowest, lowest_one}

-- the library's `find` over the boxes below n gives the lowest that passes, where its closure tests just that
pub lowest_find : {F : Type 0} {g : Mut F (Bor ℕ × Unit {0}) Bool} (test : ℕ → Bool) (n : ℕ) (u : Range ℕ) (f : F) (r : Option ℕ)
    → FindsItem nat_range_steps g (record { start = 0; end = n }) f r u → ((x : ℕ) (b : Bool) (q : F) → CalledAt g f x b q → (q ≡ f) × (b ≡ test x)) → r ≡ lowest test n
lowest_find test n u f r found same = lowest_one test n r (lowest test n) (law r first) (lowest_is_lowest test n)
  where
    first : MatchOption r ((k : ℕ) → 0 ≤ k → k < n → test k ≡ false) (λ i. (0 ≤ i) × (i < n) × (test i ≡ true) × ((k : ℕ) → 0 ≤ k → k < i → test k ≡ false))
    first = first_from_Range _ u f r (λ k. test k ≡ true) (λ k. test k ≡ false) found (λ x q k. sym (same x true q k).1) (λ x q k. ((same x false q k).0, sym (same x false q k).1))

    law : (o : Option ℕ)
        → MatchOption o ((k : ℕ) → 0 ≤ k → k < n → test k ≡ false) (λ i. (0 ≤ i) × (i < n) × (test i ≡ true) × ((k : ℕ) → 0 ≤ k → k < i → test k ≡ false))
        → IsLowest test n o
    law None h = λ i lt. h i (omega arith) lt
    law (Some i) h = (h.1, h.2, λ j lt. h.3 j (omega arith) lt)
