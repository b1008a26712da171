-- The boxes of a set one after another: what a search, and what a gathering, makes of the lowest box and of what is left without it. Assumes nothing.
use Rattle.std.proofs.Common.{◌≡◌, ℕ, zero, suc, ◌+◌, ◌*◌, ◌^◌, ◌<◌, ◌≤◌, Bool, true, false, cond, ◌⊎◌, ◌==◌, nat_lt, List, [], ◌∷◌, Some, None, Option, refl, sym, ap, ◌∙◌, subst, add-zero, zero-add, pow-suc, pow_pos, pow_mono, inl, inr, arith, lit<}
use Rattle.std.proofs.lemmas.Bool.{both_ways, cases_Bool, cases_lt, cond-false, cond-true, eq-eqb, eqb-false, eqb-true, lt-ltb, ne_eqb}
use Rattle.quorum.specs.Members.{has_past}
use Rattle.quorum.specs.Sets.{added, has}
use Rattle.quorum.specs.Walking.{Lowest, without}
use Rattle.quorum.proofs.Walks.{has_least, left_without}
use Rattle.setup.proofs.Gathering.{added_above, with_has}
use Rattle.setup.proofs.Searching.{among_in}
use Rattle.setup.specs.Rows.{among, among_at, boxes_with, entry, first, is, sooner}

-- i is the lowest box of s, and t is s without it
pub record Split (s t i : ℕ) : Type 0 where
  pub inside : has s i ≡ true
  pub none : (j : ℕ) → j < i → has s j ≡ false
  pub gone : (j : ℕ) → j ≤ i → has t j ≡ false
  pub same : (j : ℕ) → i < j → has t j ≡ has s j

pub split_lowest : (s i : ℕ) → Lowest s i → Split s (without s i) i
split_lowest s i low = let left = left_without i s low.1 low.2 in record { inside = low.1; none = low.2; gone = left.below; same = left.above }

module _ {V : Type 0} where
  -- sets with the same boxes from k on
  among_alike : (row : List (Option V)) (s t k : ℕ) → ((j : ℕ) → k ≤ j → has t j ≡ has s j) → among_at row t k ≡ among_at row s k
  among_alike [] s t k same = refl
  among_alike (x ∷ row) s t k same =
      ap (λ (b : Bool). cond b x None ∷ among_at row t (k + 1)) (same k (omega arith)) ∙ ap {B = List (Option V)} (λ (l : List (Option V)). cond (has s k) x None ∷ l) (among_alike row s t (k + 1) (λ j le. same j (omega (arith, le))))

  module _ (before : V → V → Bool) where
    first_from : (row : List (Option V)) (s t k m : ℕ) → Split s t (k + m) → first before (among_at row s k) ≡ sooner before (entry row m) (first before (among_at row t k))
    first_from [] s t k m split = refl
    first_from (x ∷ row) s t k zero split =
        let here : has s k ≡ true = ap (has s) (sym (add-zero k)) ∙ split.inside in
        let rest = among_alike row s t (k + 1) (λ j le. split.same j (omega (arith, le))) in
        ap (λ (b : Bool). sooner before (cond b x None) (first before (among_at row s (k + 1)))) here
        ∙ sym (ap (λ (b : Bool). sooner before x (sooner before (cond b x None) (first before (among_at row t (k + 1))))) (split.gone k (omega arith)) ∙ ap (λ (l : List (Option V)). sooner before x (first before l)) rest)
    first_from (x ∷ row) s t k (suc m) split =
        let next : k + suc m ≡ k + 1 + m = omega arith in
        ap (λ (b : Bool). sooner before (cond b x None) (first before (among_at row s (k + 1)))) (split.none k (omega arith))
        ∙ first_from row s t (k + 1) m (subst (Split s t) next split)
        ∙ sym (ap (λ (b : Bool). sooner before (entry row m) (sooner before (cond b x None) (first before (among_at row t (k + 1))))) (split.gone k (omega arith)))

    -- the first among the boxes of a set, from its lowest box and the others
    pub first_next : (row : List (Option V)) (s i : ℕ) → Lowest s i → first before (among row s) ≡ sooner before (entry row i) (first before (among row (without s i)))
    first_next row s i low = first_from row s (without s i) 0 i (subst (Split s (without s i)) (sym (zero-add i)) (split_lowest s i low))

    -- nothing stands at the boxes of no set
    pub first_none : (row : List (Option V)) (k : ℕ) → first before (among_at row 0 k) ≡ None
    first_none [] k = refl
    first_none (x ∷ row) k = ap (λ (b : Bool). sooner before (cond b x None) (first before (among_at row 0 (k + 1)))) (has_past 0 0 k (lit< tt) (omega arith)) ∙ first_none row (k + 1)

    -- what a turn of the search does with the lowest box that is left
    pub turn_takes : (row : List (Option V)) (s t i : ℕ) (best y r all : Option V) → Lowest s i × (t ≡ without s i) → y ≡ entry row i → ((rest : Option V) → sooner before r rest ≡ sooner before best (sooner before y rest))
        → sooner before best (first before (among row s)) ≡ all → sooner before r (first before (among row t)) ≡ all
    turn_takes row s t i best y r all low here moves so_far =
        let left = λ (n : ℕ). first before (among row n) in
        moves (left t) ∙ ap (λ (n : ℕ). sooner before best (sooner before y (left n))) low.1 ∙ ap (λ (e : Option V). sooner before best (sooner before e (left (without s i)))) here
        ∙ ap (sooner before best) (sym (first_next row s i low.0)) ∙ so_far

    sooner_none : (x : Option V) → sooner before x None ≡ x
    sooner_none None = refl
    sooner_none (Some a) = refl

    -- no box is left
    pub search_ends : (row : List (Option V)) (s : ℕ) (best all : Option V) → s ≡ 0 → sooner before best (first before (among row s)) ≡ all → best ≡ all
    search_ends row s best all none so_far =
        sym (sooner_none best) ∙ ap (sooner before best) (sym (ap (λ (n : ℕ). first before (among row n)) none ∙ first_none row 0)) ∙ so_far

  -- ---- the boxes that have a setup

  module _ (before : V → V → Bool) (v : V) where
    -- box m or none
    bit : (b : Bool) (m : ℕ) → cond b (2 ^ suc m) 0 ≡ 2 * cond b (2 ^ m) 0
    bit true m = omega (arith, pow-suc 2 m)
    bit false m = refl

    with_from : (row : List (Option V)) (s t k m : ℕ) → Split s t (k + m) → boxes_with before v (among_at row s k) ≡ cond (is before v (entry row m)) (2 ^ m) 0 + boxes_with before v (among_at row t k)
    with_from [] s t k m split = refl
    with_from (x ∷ row) s t k zero split =
        let here : has s k ≡ true = ap (has s) (sym (add-zero k)) ∙ split.inside in
        let rest = among_alike row s t (k + 1) (λ j le. split.same j (omega (arith, le))) in
        ap (λ (b : Bool). cond (is before v (cond b x None)) 1 0 + 2 * boxes_with before v (among_at row s (k + 1))) here
        ∙ sym (ap (λ (b : Bool). cond (is before v x) 1 0 + (cond (is before v (cond b x None)) 1 0 + 2 * boxes_with before v (among_at row t (k + 1)))) (split.gone k (omega arith))
        ∙ ap (λ (l : List (Option V)). cond (is before v x) 1 0 + (0 + 2 * boxes_with before v l)) rest
        ∙ ap (λ (n : ℕ). cond (is before v x) 1 0 + n) (zero-add (2 * boxes_with before v (among_at row s (k + 1)))))
    with_from (x ∷ row) s t k (suc m) split =
        let next : k + suc m ≡ k + 1 + m = omega arith in
        let more = with_from row s t (k + 1) m (subst (Split s t) next split) in
        let old : boxes_with before v (among_at (x ∷ row) s k) ≡ 0 + 2 * boxes_with before v (among_at row s (k + 1)) = ap (λ (b : Bool). cond (is before v (cond b x None)) 1 0 + 2 * boxes_with before v (among_at row s (k + 1))) (split.none k (omega arith)) in
        let new : boxes_with before v (among_at (x ∷ row) t k) ≡ 0 + 2 * boxes_with before v (among_at row t (k + 1)) = ap (λ (b : Bool). cond (is before v (cond b x None)) 1 0 + 2 * boxes_with before v (among_at row t (k + 1))) (split.gone k (omega arith)) in
        omega (arith, old, new, more, bit (is before v (entry row m)) m)

    -- the boxes of a set that have v, from its lowest box and the others
    pub with_next : (row : List (Option V)) (s i : ℕ) → Lowest s i → boxes_with before v (among row s) ≡ cond (is before v (entry row i)) (2 ^ i) 0 + boxes_with before v (among row (without s i))
    with_next row s i low = with_from row s (without s i) 0 i (subst (Split s (without s i)) (sym (zero-add i)) (split_lowest s i low))

    with_none : (row : List (Option V)) (k : ℕ) → boxes_with before v (among_at row 0 k) ≡ 0
    with_none [] k = refl
    with_none (x ∷ row) k =
        ap (λ (b : Bool). cond (is before v (cond b x None)) 1 0 + 2 * boxes_with before v (among_at row 0 (k + 1))) (has_past 0 0 k (lit< tt) (omega arith)) ∙ omega (arith, with_none row (k + 1))

    -- what is found so far lies below the boxes that are left, and with those of them that have v it is all
    pub record Gathered (row : List (Option V)) (s left found : ℕ) : Type 0 where
      pub low : (j : ℕ) → has left j ≡ true → found < 2 ^ j
      pub all : found + boxes_with before v (among row left) ≡ boxes_with before v (among row s)

    pub gathers_none : (row : List (Option V)) (s : ℕ) → Gathered row s s 0
    gathers_none row s = record { low = λ j h. pow_pos j; all = zero-add (boxes_with before v (among row s)) }

    -- what a turn does with the lowest box that is left
    turn_gathers : (row : List (Option V)) (s left t i found r : ℕ) (y : Option V) → Lowest left i × (t ≡ without left i) → y ≡ entry row i → r ≡ cond (is before v y) (cond (nat_lt i 32) (added found i) found) found → Gathered row s left found → Gathered row s t r
    turn_gathers row s left t i found r y low here joins g = record { low = above; all = all }
      where
        one : (b : Bool) → cond b (added found i) found ≡ found + cond b (2 ^ i) 0
        one true = added_above i found (g.low i low.0.1)
        one false = sym (add-zero found)

        fits : cond (nat_lt i 32) (added found i) found ≡ added found i
        fits = cond-true (nat_lt i 32) (added found i) found (lt-ltb i 32 low.0.0)

        more : r ≡ found + cond (is before v (entry row i)) (2 ^ i) 0
        more = joins ∙ ap (λ (n : ℕ). cond (is before v y) n found) fits ∙ one (is before v y) ∙ ap (λ (e : Option V). found + cond (is before v e) (2 ^ i) 0) here

        few : (b : Bool) → cond b (2 ^ i) 0 ≤ 2 ^ i
        few true = omega arith
        few false = omega arith

        above : (j : ℕ) → has t j ≡ true → r < 2 ^ j
        above j h = go (cases_lt i j)
          where
            there : has (without left i) j ≡ true
            there = ap (λ (n : ℕ). has n j) (sym low.1) ∙ h

            go : ((i < j) ⊎ (j ≤ i)) → r < 2 ^ j
            go (inl lt) = omega (arith, more, few (is before v (entry row i)), g.low i low.0.1, pow-suc 2 i, pow_mono {i = suc i} {j = j} (omega arith))
            go (inr le) = absurd (both_ways (has (without left i) j) ((split_lowest left i low.0).gone j le) there)

        all : r + boxes_with before v (among row t) ≡ boxes_with before v (among row s)
        all = omega (arith, more, g.all, with_next row left i low.0, ap (λ (n : ℕ). boxes_with before v (among row n)) low.1)

    -- the same where it has v, and where it has not
    pub gathers_one : (row : List (Option V)) (s left t i found r : ℕ) (y : Option V) → Lowest left i × (t ≡ without left i) → y ≡ entry row i → true ≡ is before v y → r ≡ cond (nat_lt i 32) (added found i) found → Gathered row s left found → Gathered row s t r
    gathers_one row s left t i found r y low here has_it joins = turn_gathers row s left t i found r y low here (joins ∙ sym (cond-true (is before v y) _ found (sym has_it)))

    pub gathers_other : (row : List (Option V)) (s left t i found : ℕ) (y : Option V) → Lowest left i × (t ≡ without left i) → y ≡ entry row i → false ≡ is before v y → Gathered row s left found → Gathered row s t found
    gathers_other row s left t i found y low here lacks = turn_gathers row s left t i found found y low here (sym (cond-false (is before v y) _ found (sym lacks)))

    pub gathers_all : (row : List (Option V)) (s left found : ℕ) → left ≡ 0 → Gathered row s left found → found ≡ boxes_with before v (among row s)
    gathers_all row s left found none g = omega (arith, g.all, ap (λ (n : ℕ). boxes_with before v (among row n)) none ∙ with_none row 0)

    -- ---- whether all have it

    abbrev pub All : List (Option V) → ℕ → Bool
    All row s = boxes_with before v (among row s) == s

    same_rest : (k a b : ℕ) → (k + a == k + b) ≡ (a == b)
    same_rest k a b = go (cases_Bool (a == b))
      where
        go : (((a == b) ≡ true) ⊎ ((a == b) ≡ false)) → (k + a == k + b) ≡ (a == b)
        go (inl h) = eq-eqb _ _ (ap (λ (n : ℕ). k + n) (eqb-true a b h)) ∙ sym h
        go (inr h) = ne_eqb _ _ (λ e. eqb-false a b h (omega (arith, e))) ∙ sym h

    -- the lowest box has it: all have it if all the others do
    pub all_next : (row : List (Option V)) (left t i : ℕ) (y : Option V) → Lowest left i × (t ≡ without left i) → y ≡ entry row i → true ≡ is before v y → All row left ≡ All row t
    all_next row left t i y low here has_it =
        let one : is before v (entry row i) ≡ true = ap (is before v) (sym here) ∙ sym has_it in
        let some = with_next row left i low.0 ∙ ap (λ (b : Bool). cond b (2 ^ i) 0 + boxes_with before v (among row (without left i))) one in
        let whole : left ≡ 2 ^ i + without left i = omega (arith, has_least left i low.0.1) in
        (λ j. some j == whole j) ∙ same_rest (2 ^ i) (boxes_with before v (among row (without left i))) (without left i) ∙ ap (All row) (sym low.1)

    -- it has not: then not all have it
    pub all_fails : (row : List (Option V)) (left t i : ℕ) (y : Option V) → Lowest left i × (t ≡ without left i) → y ≡ entry row i → false ≡ is before v y → All row left ≡ false
    all_fails row left t i y low here lacks =
        let missing : has (boxes_with before v (among row left)) i ≡ false = with_has before v (among row left) i ∙ ap (is before v) (among_in row left i low.0.1 ∙ sym here) ∙ sym lacks in
        ne_eqb _ left (λ e. both_ways (has left i) (ap (λ (n : ℕ). has n i) (sym e) ∙ missing) low.0.1)

    -- no box is left
    pub all_ends : (row : List (Option V)) (left : ℕ) → left ≡ 0 → All row left ≡ true
    all_ends row left none = eq-eqb _ left (ap (λ (n : ℕ). boxes_with before v (among row n)) none ∙ with_none row 0 ∙ sym none)
