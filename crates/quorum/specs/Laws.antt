-- The laws of the rules that come with the library. Assumes nothing.
use Rattle.std.specs.Prelude.{◌≡◌, ℕ, ◌+◌, ◌*◌, ◌^◌, ◌<◌, ◌≤◌, Bool, true, ◌&&◌, ◌||◌, ◌⊎◌, count_ones, nat_le, nat_lt}
use Rattle.std.proofs.Common.{inl, inr, sym, subst, ◌∙◌, arith}
use Rattle.std.proofs.lemmas.Nat.{or_lt}
use Rattle.std.specs.Int.Count.{ones-ones}
use Rattle.std.proofs.Math.Pow.{ones_lt, pow-lt}
use Rattle.std.proofs.lemmas.Bool.{and_from, and_parts, cases_lt, eq-eqb, eqb-true, le-leb, lt-ltb, ltb-true, or_cases, or_left, or_right}
use Rattle.quorum.specs.Families.{anchored, majority, present}
use Rattle.quorum.specs.Rules.{ClearLawful, Family, Lawful, Roster}
use Rattle.quorum.specs.Sets.{added, count, everyone, has, within}
use Rattle.quorum.specs.Counts.{count_or, three_share, two_share}
use Rattle.quorum.specs.Members.{has_below, has_everyone, has_or}

-- ---- rules that go by the count

-- the sets of n boxes whose count passes the test
abbrev pub counted : ℕ → (ℕ → Bool) → ℕ → Bool
counted n p s = within n s && p (count s)

below : (n s : ℕ) (p : ℕ → Bool) → counted n p s ≡ true → s < 2 ^ n
below n s p h = ltb-true s (2 ^ n) (and_parts (within n s) (p (count s)) h).0

passed : (n s : ℕ) (p : ℕ → Bool) → counted n p s ≡ true → p (count s) ≡ true
passed n s p h = (and_parts (within n s) (p (count s)) h).1

-- a test that a greater count passes too, and all n boxes pass
pub record Test (n : ℕ) (p : ℕ → Bool) : Type 0 where
  pub more : (j k : ℕ) → j ≤ k → p j ≡ true → p k ≡ true
  pub all : p n ≡ true

counted_whole : (n : ℕ) (p : ℕ → Bool) → Test n p → counted n p (everyone n) ≡ true
counted_whole n p t =
    and_from (within n (everyone n)) (p (count (everyone n))) (lt-ltb (everyone n) (2 ^ n) (ones_lt n))
    (subst (λ (k : ℕ). p k ≡ true) (sym (ones-ones n)) t.all)

pub counted_lawful : (n : ℕ) (p : ℕ → Bool) → Roster n → Test n p → ((k : ℕ) → p k ≡ true → n < 2 * k) → Lawful (record { boxes = n; quorum = counted n p })
counted_lawful n p sized t half = record {
  roster = sized;
  inside = λ s h. (and_parts (within n s) (p (count s)) h).0;
  shares = λ s u h g.
      two_share n s u (below n s p h) (below n u p g) (omega (arith, half (count_ones s) (passed n s p h), half (count_ones u) (passed n u p g)));
  grows = λ s i h lt.
      and_from (within n (added s i)) (p (count (added s i))) (lt-ltb (added s i) (2 ^ n) (or_lt n s (2 ^ i) (below n s p h) (pow-lt lt)))
      (t.more (count_ones s) (count_ones (added s i)) (count_or n s (2 ^ i) (below n s p h)) (passed n s p h));
  whole = counted_whole n p t;
}

-- twice the count exceeds n
pub majority_lawful : (n : ℕ) → Roster n → Lawful (majority n)
majority_lawful n sized =
    counted_lawful n (λ k. nat_lt n (2 * k)) sized
    (record { more = λ j k le h. lt-ltb n (2 * k) (omega (arith, ltb-true n (2 * j) h)); all = lt-ltb n (2 * n) (omega (arith, sized)) })
    (λ k h. ltb-true n (2 * k) h)

-- p tells the quorums, and q the clear sets
pub counted_clear : (n : ℕ) (p q : ℕ → Bool) → Test n q → ((j k l : ℕ) → p j ≡ true → p k ≡ true → q l ≡ true → 2 * n < j + k + l) → ((k : ℕ) → q k ≡ true → p k ≡ true)
    → ClearLawful (record { boxes = n; quorum = counted n p }) (counted n q)
counted_clear n p q t enough less = record {
  inside = λ c h. (and_parts (within n c) (q (count c)) h).0;
  shares = λ s u c h g k.
      three_share n s u c (below n s p h) (below n u p g) (below n c q k) (enough (count_ones s) (count_ones u) (count_ones c) (passed n s p h) (passed n u p g) (passed n c q k));
  contains = λ c h. (c, and_from (within n c) (p (count c)) (and_parts (within n c) (q (count c)) h).0 (less (count_ones c) (passed n c q h)), λ i e. e);
  whole = counted_whole n q t;
}

-- ---- rules over a rule

pub anchored_lawful : (k : ℕ) (f : Family) → Lawful f → Lawful (anchored k f)
anchored_lawful k f law = record {
  roster = law.roster;
  inside = λ s h. law.inside s (under s h).0;
  shares = λ s t h g. law.shares s t (under s h).0 (under t g).0;
  grows = λ s i h lt. and_from (f.quorum (added s i)) (free || has (added s i) k) (law.grows s i (under s h).0 lt) (kept s i (or_cases free (has s k) (under s h).1));
  whole = and_from (f.quorum all) (free || has all k) law.whole (there (cases_lt k f.boxes));
}
  where
    all : ℕ
    all = everyone f.boxes

    free : Bool
    free = nat_le f.boxes k

    under : (s : ℕ) → (f.quorum s && (free || has s k)) ≡ true → (f.quorum s ≡ true) × ((free || has s k) ≡ true)
    under s h = and_parts (f.quorum s) (free || has s k) h

    kept : (s i : ℕ) → (free ≡ true) ⊎ (has s k ≡ true) → (free || has (added s i) k) ≡ true
    kept s i (inl e) = or_left free (has (added s i) k) e
    kept s i (inr e) = or_right free (has (added s i) k) (has_or s (2 ^ i) k ∙ or_left (has s k) (has (2 ^ i) k) e)

    there : (k < f.boxes) ⊎ (f.boxes ≤ k) → (free || has all k) ≡ true
    there (inl lt) = or_right free (has all k) (has_everyone f.boxes k lt)
    there (inr le) = or_left free (has all k) (le-leb f.boxes k le)

pub present_clear : (f : Family) → Lawful f → ClearLawful f (present f)
present_clear f law = record {
  inside = λ c h. subst (λ (s : ℕ). within f.boxes s ≡ true) (sym (is_all c h)) (lt-ltb all (2 ^ f.boxes) (ones_lt f.boxes));
  shares = λ s t c h g k.
      let r = law.shares s t h g in
      let lt = has_below f.boxes s r.0 (ltb-true s (2 ^ f.boxes) (law.inside s h)) r.1 in
      (r.0, r.1, r.2, subst (λ (x : ℕ). has x r.0 ≡ true) (sym (is_all c k)) (has_everyone f.boxes r.0 lt));
  contains = λ c h. (all, law.whole, λ i e. subst (λ (x : ℕ). has x i ≡ true) (sym (is_all c h)) e);
  whole = eq-eqb all all (λ i. all);
}
  where
    all : ℕ
    all = everyone f.boxes

    is_all : (c : ℕ) → present f c ≡ true → c ≡ all
    is_all c h = eqb-true c all h
