-- What the search gives is the first. Assumes nothing.
use Rattle.std.proofs.Common.{◌≡◌, ℕ, zero, suc, ◌+◌, Bool, true, false, cond, ◌⊎◌, List, [], ◌∷◌, length, Some, None, Option, sym, refl, ap, ◌∙◌, subst, inl, inr, add-zero, zero-add, arith}
use Rattle.std.proofs.lemmas.Bool.{both_ways, cases_Bool, cond-false, cond-true}
use Rattle.quorum.specs.Sets.{everyone, has}
use Rattle.quorum.proofs.Somes.{some_is, some_none}
use Rattle.setup.specs.Orders.{Ordered}
use Rattle.setup.specs.Rows.{among, among_at, entry, first, sooner, IsFirst}
use Rattle.setup.proofs.Gathering.{among_all}

-- box i of the row with none at the boxes that are not in the set
pub entry_among : {V : Type 0} (row : List (Option V)) (s k i : ℕ) → entry (among_at row s k) i ≡ cond (has s (k + i)) (entry row i) None
entry_among {V} [] s k i = none (has s (k + i))
  where
    none : (b : Bool) → ◌≡◌ {A = Option V} None (cond b None None)
    none true = refl
    none false = refl
entry_among (x ∷ row) s k zero = ap (λ (j : ℕ). cond (has s j) x None) (sym (add-zero k))
entry_among (x ∷ row) s k (suc i) =
    let next : k + 1 + i ≡ k + suc i = omega arith in
    entry_among row s (k + 1) i ∙ ap (λ (j : ℕ). cond (has s j) (entry row i) None) next

-- so what stands at a box of the set stands there, and nothing at another box; and the other way round
pub among_in : {V : Type 0} (row : List (Option V)) (s i : ℕ) → has s i ≡ true → entry (among row s) i ≡ entry row i
among_in row s i h = entry_among row s 0 i ∙ cond-true (has s (0 + i)) (entry row i) None (ap (has s) (zero-add i) ∙ h)

pub among_out : {V : Type 0} (row : List (Option V)) (s i : ℕ) → has s i ≡ false → entry (among row s) i ≡ None
among_out row s i h = entry_among row s 0 i ∙ cond-false (has s (0 + i)) (entry row i) None (ap (has s) (zero-add i) ∙ h)

pub among_from : {V : Type 0} (row : List (Option V)) (s i : ℕ) (v : V) → entry (among row s) i ≡ Some v → (has s i ≡ true) × (entry row i ≡ Some v)
among_from row s i v e = go (cases_Bool (has s i))
  where
    go : ((has s i ≡ true) ⊎ (has s i ≡ false)) → (has s i ≡ true) × (entry row i ≡ Some v)
    go (inl h) = (h, sym (among_in row s i h) ∙ e)
    go (inr h) = absurd (some_none (sym e ∙ among_out row s i h))

module _ {V : Type 0} {before : V → V → Bool} (o : Ordered before) where
  -- no two come before each other
  pub one_way : (a b : V) → before a b ≡ true → before b a ≡ false
  one_way a b h = go (cases_Bool (before b a))
    where
      go : ((before b a ≡ true) ⊎ (before b a ≡ false)) → before b a ≡ false
      go (inl g) = absurd (both_ways (before a a) (o.irreflexive a) (o.transitive a b a h g))
      go (inr g) = g

  -- what does not come before b, and b not before c, does not come before c
  pub chain : (a b c : V) → before a b ≡ false → before b c ≡ false → before a c ≡ false
  chain a b c h g = go (cases_Bool (before a c)) (cases_Bool (before c b))
    where
      go : ((before a c ≡ true) ⊎ (before a c ≡ false)) → ((before c b ≡ true) ⊎ (before c b ≡ false)) → before a c ≡ false
      go (inr e) d = e
      go (inl e) (inl d) = absurd (both_ways (before a b) h (o.transitive a c b e d))
      go (inl e) (inr d) = absurd (both_ways (before a b) h (subst (λ (x : V). before a x ≡ true) (sym (o.total b c g d)) e))

  -- of three the first two may be compared before the third is looked at: b comes before a, and b does not
  pub earlier_moves : (a b : V) → before b a ≡ true → (rest : Option V) → sooner before (Some b) rest ≡ sooner before (Some a) (sooner before (Some b) rest)
  earlier_moves a b h None = sym (ap (λ (t : Bool). Some (cond t b a)) h)
  earlier_moves a b h (Some c) = go (before c b) refl
    where
      go : (t : Bool) → before c b ≡ t → Some (cond t c b) ≡ sooner before (Some a) (Some (cond t c b))
      go true g = sym (ap (λ (t : Bool). Some (cond t c a)) (o.transitive c b a g h))
      go false g = sym (ap (λ (t : Bool). Some (cond t b a)) h)

  pub later_moves : (a b : V) → before b a ≡ false → (rest : Option V) → sooner before (Some a) rest ≡ sooner before (Some a) (sooner before (Some b) rest)
  later_moves a b h None = sym (ap (λ (t : Bool). Some (cond t b a)) h)
  later_moves a b h (Some c) = go (before c b) refl
    where
      go : (t : Bool) → before c b ≡ t → Some (cond (before c a) c a) ≡ sooner before (Some a) (Some (cond t c b))
      go true g = refl
      go false g = ap (λ (t : Bool). Some (cond t c a)) (chain c b a g h) ∙ sym (ap (λ (t : Bool). Some (cond t b a)) h)

  -- the first of a row: it stands there, and nothing that stands there comes before it
  abbrev pub Least : List (Option V) → Option V → Type 0
  Least row None = (i : ℕ) → entry row i ≡ None
  Least row (Some v) = ((i : ℕ) × (entry row i ≡ Some v)) × ((i : ℕ) (w : V) → entry row i ≡ Some w → before w v ≡ false)

  joins : (row : List (Option V)) (x y : Option V) → Least row y → Least (x ∷ row) (sooner before x y)
  joins row None None h = rest
    where
      rest : (i : ℕ) → entry (None ∷ row) i ≡ None
      rest zero = refl
      rest (suc i) = h i
  joins row None (Some v) h = ((suc h.0.0, h.0.1), rest)
    where
      rest : (i : ℕ) (w : V) → entry (None ∷ row) i ≡ Some w → before w v ≡ false
      rest zero w e = absurd (some_none (sym e))
      rest (suc i) w e = h.1 i w e
  joins row (Some a) None h = ((zero, refl), rest)
    where
      rest : (i : ℕ) (w : V) → entry (Some a ∷ row) i ≡ Some w → before w a ≡ false
      rest zero w e = subst (λ (x : V). before x a ≡ false) (some_is e) (o.irreflexive a)
      rest (suc i) w e = absurd (some_none (sym (sym (h i) ∙ e)))
  joins row (Some a) (Some v) h = pick (before v a) refl
    where
      rest : (u : V) → before a u ≡ false → before v u ≡ false → (i : ℕ) (w : V) → entry (Some a ∷ row) i ≡ Some w → before w u ≡ false
      rest u ha hv zero w e = subst (λ (x : V). before x u ≡ false) (some_is e) ha
      rest u ha hv (suc i) w e = chain w v u (h.1 i w e) hv

      pick : (b : Bool) → before v a ≡ b → Least (Some a ∷ row) (Some (cond b v a))
      pick true g = ((suc h.0.0, h.0.1), rest v (one_way v a g) (o.irreflexive v))
      pick false g = ((zero, refl), rest a (o.irreflexive a) g)

  pub least : (row : List (Option V)) → Least row (first before row)
  least [] = λ i. refl
  least (x ∷ row) = joins row x (first before row) (least row)

  -- and no other does so
  pub least_one : (row : List (Option V)) (x y : Option V) → Least row x → Least row y → x ≡ y
  least_one row None None h g = refl
  least_one row None (Some w) h g = absurd (some_none (sym g.0.1 ∙ h g.0.0))
  least_one row (Some v) None h g = absurd (some_none (sym h.0.1 ∙ g h.0.0))
  least_one row (Some v) (Some w) h g = ap {B = Option V} Some (o.total v w (g.1 h.0.0 v h.0.1) (h.1 g.0.0 w g.0.1))

  among_first : (row : List (Option V)) (s : ℕ) (r : Option V) → Least (among row s) r → IsFirst before row s r
  among_first row s None h = λ i inside. sym (among_in row s i inside) ∙ h i
  among_first row s (Some v) h = (
    (h.0.0, (among_from row s h.0.0 v h.0.1).0, (among_from row s h.0.0 v h.0.1).1),
    λ i w inside e other. sooner_than w other (h.1 i w (among_in row s i inside ∙ e)) (cases_Bool (before v w)),
  )
    where
      sooner_than : (w : V) → (w ≡ v → ⊥) → before w v ≡ false → ((before v w ≡ true) ⊎ (before v w ≡ false)) → before v w ≡ true
      sooner_than w other h (inl e) = e
      sooner_than w other h (inr e) = absurd (other (o.total w v h e))

  pub first_is_first : (row : List (Option V)) (s : ℕ) → IsFirst before row s (first before (among row s))
  first_is_first row s = among_first row s (first before (among row s)) (least (among row s))

  -- what comes before a setup is another one
  apart : (a b : V) → before a b ≡ true → a ≡ b → ⊥
  apart a b h e = both_ways (before b b) (o.irreflexive b) (subst (λ (x : V). before x b ≡ true) e h)

  -- of two firsts among the same setups neither comes before the other
  not_before : (row other : List (Option V)) (s : ℕ) (v w : V) → ((i : ℕ) → has s i ≡ true → entry row i ≡ entry other i) → IsFirst before row s (Some v) → IsFirst before other s (Some w)
      → before v w ≡ false
  not_before row other s v w same h g = go (cases_Bool (before v w))
    where
      go : ((before v w ≡ true) ⊎ (before v w ≡ false)) → before v w ≡ false
      go (inr e) = e
      go (inl e) =
          let back = g.1 h.0.0 v h.0.1 (sym (same h.0.0 h.0.1) ∙ h.0.2) (apart v w e) in absurd (both_ways (before w v) (one_way v w e) back)

  one_first : (row other : List (Option V)) (s : ℕ) (x y : Option V) → ((i : ℕ) → has s i ≡ true → entry row i ≡ entry other i) → IsFirst before row s x → IsFirst before other s y → x ≡ y
  one_first row other s None None same h g = refl
  one_first row other s None (Some w) same h g = absurd (some_none (sym (sym (h g.0.0 g.0.1) ∙ same g.0.0 g.0.1 ∙ g.0.2)))
  one_first row other s (Some v) None same h g = absurd (some_none (sym (sym (g h.0.0 h.0.1) ∙ sym (same h.0.0 h.0.1) ∙ h.0.2)))
  one_first row other s (Some v) (Some w) same h g =
      ap {B = Option V} Some (o.total v w (not_before row other s v w same h g) (not_before other row s w v (λ i e. sym (same i e)) g h))

  -- the first among the boxes of a set depends on no other box
  pub first_alike : (row other : List (Option V)) (s : ℕ) → ((i : ℕ) → has s i ≡ true → entry row i ≡ entry other i) → first before (among row s) ≡ first before (among other s)
  first_alike row other s same = one_first row other s _ _ same (first_is_first row s) (first_is_first other s)

  -- so rows with the same at every box have one first
  pub first_same : (row other : List (Option V)) → ((i : ℕ) → entry row i ≡ entry other i) → first before row ≡ first before other
  first_same row other same =
      let n = length row + length other in
      sym (ap (first before) (among_all row n (omega arith))) ∙ first_alike row other (everyone n) (λ i h. same i) ∙ ap (first before) (among_all other n (omega arith))
