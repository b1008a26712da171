-- The lowest box that passes a test. Assumes nothing.
use Rattle.std.proofs.Common.{◌≡◌, ℕ, zero, suc, ◌+◌, ◌<◌, ◌≤◌, Bool, true, false, cond, ◌⊎◌, Some, None, Option, sym, refl, ap, ◌∙◌, subst, inl, inr, arith}
use Rattle.std.proofs.lemmas.Bool.{both_ways, cases_lt}
use Rattle.quorum.specs.Boxes.{lowest, lowest_from, IsLowest}

-- where no box below i passes, nor box i, none below i + 1 does
none_more : (test : ℕ → Bool) (i : ℕ) → ((j : ℕ) → j < i → test j ≡ false) → test i ≡ false → (j : ℕ) → j < i + 1 → test j ≡ false
none_more test i none e j lt = pick (cases_lt j i)
  where
    pick : (j < i) ⊎ (i ≤ j) → test j ≡ false
    pick (inl l) = none j l
    pick (inr g) = let same : j ≡ i = omega arith in ap test same ∙ e

-- what the search gives from box i on, where no box below i passes
lowest_law : (test : ℕ → Bool) (i m : ℕ) → ((j : ℕ) → j < i → test j ≡ false) → IsLowest test (i + m) (lowest_from test i m)
lowest_law test i zero none = λ j lt. none j (omega arith)
lowest_law test i (suc m) none = go (test i) refl (λ e. lowest_law test (i + 1) m (none_more test i none e))
  where
    go : (b : Bool) → test i ≡ b → (test i ≡ false → IsLowest test (i + 1 + m) (lowest_from test (i + 1) m)) → IsLowest test (i + suc m) (cond b (Some i) (lowest_from test (i + 1) m))
    go true e rest = (omega arith, e, none)
    go false e rest =
        let next : i + 1 + m ≡ i + suc m = omega arith in
        subst (λ (n : ℕ). IsLowest test n (lowest_from test (i + 1) m)) next (rest e)

pub lowest_is_lowest : (test : ℕ → Bool) (n : ℕ) → IsLowest test n (lowest test n)
lowest_is_lowest test n =
    let all : 0 + n ≡ n = omega arith in
    subst (λ (k : ℕ). IsLowest test k (lowest test n)) all (lowest_law test 0 n (λ j lt. absurd (omega arith)))

-- there is none exactly if no box below n passes
pub lowest_none : (test : ℕ → Bool) (n : ℕ) → ((i : ℕ) → i < n → test i ≡ false) → lowest test n ≡ None
lowest_none test n none = go (lowest test n) (lowest_is_lowest test n)
  where
    go : (r : Option ℕ) → IsLowest test n r → r ≡ None
    go None law = refl
    go (Some i) law = absurd (both_ways (test i) (none i law.0) law.1)

pub none_passes : (test : ℕ → Bool) (n : ℕ) → lowest test n ≡ None → (i : ℕ) → i < n → test i ≡ false
none_passes test n e = subst (IsLowest test n) e (lowest_is_lowest test n)

-- there is one lowest box at most
pub lowest_one : (test : ℕ → Bool) (n : ℕ) (r s : Option ℕ) → IsLowest test n r → IsLowest test n s → r ≡ s
lowest_one test n None None a b = refl
lowest_one test n None (Some j) a b = absurd (both_ways (test j) (a j b.0) b.1)
lowest_one test n (Some i) None a b = absurd (both_ways (test i) (b i a.0) a.1)
lowest_one test n (Some i) (Some j) a b = ap Some (go (cases_lt i j) (cases_lt j i))
  where
    go : (i < j) ⊎ (j ≤ i) → (j < i) ⊎ (i ≤ j) → i ≡ j
    go (inl lt) d = absurd (both_ways (test i) (b.2 i lt) a.1)
    go (inr le) (inl lt) = absurd (both_ways (test j) (a.2 j lt) b.1)
    go (inr le) (inr ge) = omega arith

-- a box that passes where none below it does is the lowest
pub lowest_is : (test : ℕ → Bool) (n i : ℕ) → i < n → test i ≡ true → ((j : ℕ) → j < i → test j ≡ false) → lowest test n ≡ Some i
lowest_is test n i lt there below = lowest_one test n (lowest test n) (Some i) (lowest_is_lowest test n) (lt, there, below)

-- a test that fails below n and past n fails everywhere
nowhere : (test : ℕ → Bool) (n : ℕ) → ((i : ℕ) → n ≤ i → test i ≡ false) → ((i : ℕ) → i < n → test i ≡ false) → (i : ℕ) → test i ≡ false
nowhere test n past below i = pick (cases_lt i n)
  where
    pick : (i < n) ⊎ (n ≤ i) → test i ≡ false
    pick (inl lt) = below i lt
    pick (inr le) = past i le

-- tests that agree, and fail past the roster's end, pass first at one box, whichever of two rosters it is sought in
pub lowest_alike : (p q : ℕ → Bool) (n m : ℕ) → ((i : ℕ) → p i ≡ q i) → ((i : ℕ) → n ≤ i → p i ≡ false) → ((i : ℕ) → m ≤ i → q i ≡ false) → lowest p n ≡ lowest q m
lowest_alike p q n m same past_n past_m = go (lowest p n) (lowest q m) (lowest_is_lowest p n) (lowest_is_lowest q m)
  where
    go : (r s : Option ℕ) → IsLowest p n r → IsLowest q m s → r ≡ s
    go None None a b = refl
    go None (Some j) a b = absurd (both_ways (q j) (sym (same j) ∙ nowhere p n past_n a j) b.1)
    go (Some i) None a b = absurd (both_ways (p i) (same i ∙ nowhere q m past_m b i) a.1)
    go (Some i) (Some j) a b = ap Some (one (cases_lt i j) (cases_lt j i))
      where
        one : (i < j) ⊎ (j ≤ i) → (j < i) ⊎ (i ≤ j) → i ≡ j
        one (inl lt) d = absurd (both_ways (q i) (b.2 i lt) (sym (same i) ∙ a.1))
        one (inr le) (inl lt) = absurd (both_ways (p j) (a.2 j lt) (same j ∙ b.1))
        one (inr le) (inr ge) = omega arith
