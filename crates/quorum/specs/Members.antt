-- The boxes of a set, bit by bit. Assumes nothing.
use Rattle.std.specs.Prelude.{◌≡◌, ℕ, zero, suc, ◌+◌, ◌-◌, ◌*◌, ◌/◌, ◌%◌, ◌^◌, ◌<◌, ◌≤◌, true, false, not, ◌&&◌, ◌||◌, ◌⊎◌, Decides, ◌==◌, bit_and, bit_or, min, nat_eq, nat_le, nat_lt, refl}
use Rattle.std.specs.Int.{bit_at, bit_not, w32}
use Rattle.std.proofs.Common.{inl, inr, sym, ap, ◌∙◌, lt_of_lt_of_le, mod-lt, le-add_right, one-mul, lt_of_le_of_lt, div-lt_iff_lt-mul, pow-suc, one-add, arith, lit<, pow_pos, pow_mono, shr-shr}
use Rattle.std.proofs.Math.Nat.{div-eq_of_lt, min-eq_left, min-eq_right}
use Rattle.std.proofs.Math.Arith.{lt-one}
use Rattle.std.proofs.lemmas.Nat.{or_shr, or_mod, shr_le}
use Rattle.std.proofs.lemmas.Nat.Bits.{bit_at-lt, bit_at_and, bit_at_not}
use Rattle.std.proofs.Math.Pow.{ones_lt}
use Rattle.std.proofs.lemmas.Bool.{both_ways, cases_lt, eq-eqb, eqb-false, le-leb, le-ltb, lt-leb, lt-ltb, ltb-true}
use Rattle.std.proofs.lemmas.Bool.Decides.{nat_tests}
use Rattle.quorum.specs.Sets.{everyone, has, within, AllBelow, NoneAbove}

-- a set below 2 ^ n has no box at n or above
pub has_past : (n s i : ℕ) → s < 2 ^ n → n ≤ i → has s i ≡ false
has_past n s i h le = ap (λ (q : ℕ). nat_eq (q % 2) 1) (div-eq_of_lt (lt_of_lt_of_le h (pow_mono le)))

-- what is left of a set behind its first n boxes
pub has_shr : (s n i : ℕ) → has (s / 2 ^ n) i ≡ has s (n + i)
has_shr s n i = ap (λ (q : ℕ). nat_eq (q % 2) 1) (shr-shr s n i)

-- a box above the first, in what is left behind the first
pub has_half : (s i : ℕ) → has s (suc i) ≡ has (s / 2) i
has_half s i = ap (has s) (sym (one-add i)) ∙ sym (has_shr s 1 i)

-- a set with no box is 0
no_box : (k s : ℕ) → s < 2 ^ k → ((i : ℕ) → has s i ≡ false) → s ≡ 0
no_box zero s h none = lt-one h
no_box (suc k) s h none =
    let rest : s / 2 ≡ 0 = no_box k (s / 2) (omega (arith, pow-suc 2 k)) (λ i. has_shr s 1 i ∙ none (1 + i)) in
    omega (arith, eqb-false _ _ (none 0))

below_from_none : (k n s : ℕ) → s < 2 ^ k → NoneAbove n s → s < 2 ^ n
below_from_none k n s h none =
    let gone : s / 2 ^ n ≡ 0 = no_box k (s / 2 ^ n) (lt_of_le_of_lt (shr_le s n) h) (λ i. has_shr s n i ∙ none (n + i) (le-add_right n i)) in
    let low : s < 1 * 2 ^ n = (div-lt_iff_lt-mul (pow_pos n)).0 (omega arith) in
    omega (arith, one-mul (2 ^ n))

-- the test that the code makes: a set of k boxes at most is no greater than that of all below n
pub no_greater : (k n s : ℕ) → s < 2 ^ k → nat_le s (everyone (min n k)) ≡ within n s
no_greater k n s h = go (cases_lt k n) (cases_lt s (2 ^ n))
  where
    some : 0 < 2 ^ n
    some = pow_pos n

    go : ((k < n) ⊎ (n ≤ k)) → ((s < 2 ^ n) ⊎ (2 ^ n ≤ s)) → nat_le s (everyone (min n k)) ≡ within n s
    go (inr le) (inl lt) = le-leb s _ (omega (arith, ap everyone (min-eq_left le), some)) ∙ sym (lt-ltb s (2 ^ n) lt)
    go (inr le) (inr ge) = lt-leb s _ (omega (arith, ap everyone (min-eq_left le), some)) ∙ sym (le-ltb s (2 ^ n) ge)
    go (inl gt) (inl lt) = le-leb s _ (omega (arith, ap everyone (min-eq_right {n = k} {m = n} (omega arith)), h)) ∙ sym (lt-ltb s (2 ^ n) lt)
    go (inl gt) (inr ge) = absurd (omega (arith, h, ge, pow_mono {i = k} {j = n} (omega arith)))

-- `within` says what its words say
pub within_decides : (k n s : ℕ) → s < 2 ^ k → Decides (within n s) (NoneAbove n s)
within_decides k n s h = (λ e i le. has_past n s i (ltb-true s (2 ^ n) e) le, λ none. lt-ltb s (2 ^ n) (below_from_none k n s h none))

or_digit : (d e : ℕ) → d < 2 → e < 2 → (bit_or d e == 1) ≡ (d == 1 || e == 1)
or_digit zero zero g h = refl
or_digit zero (suc zero) g h = refl
or_digit (suc zero) zero g h = refl
or_digit (suc zero) (suc zero) g h = refl
or_digit zero (suc (suc e)) g h = absurd (omega arith)
or_digit (suc zero) (suc (suc e)) g h = absurd (omega arith)
or_digit (suc (suc d)) e g h = absurd (omega arith)

-- a box is in either of two sets
pub has_or : (s t i : ℕ) → has (bit_or s t) i ≡ (has s i || has t i)
has_or s t i =
    ap (λ (q : ℕ). nat_eq (q % 2) 1) (or_shr s t i)
    ∙ ap (λ (q : ℕ). nat_eq q 1) (or_mod (s / 2 ^ i) (t / 2 ^ i) 1)
    ∙ or_digit (s / 2 ^ i % 2) (t / 2 ^ i % 2) (mod-lt (s / 2 ^ i) (lit< tt)) (mod-lt (t / 2 ^ i) (lit< tt))

and_digit : (d e : ℕ) → d < 2 → e < 2 → (min d e == 1) ≡ (d == 1 && e == 1)
and_digit d e g h = grind (arith, nat_tests)

-- a box is in both of two sets
pub has_and : (s t i : ℕ) → has (bit_and s t) i ≡ (has s i && has t i)
has_and s t i = ap (λ (q : ℕ). nat_eq q 1) (bit_at_and s t i) ∙ and_digit (bit_at s i) (bit_at t i) (bit_at-lt s i) (bit_at-lt t i)

not_digit : (d : ℕ) → d < 2 → (1 - d == 1) ≡ not (d == 1)
not_digit d h = grind (arith, nat_tests)

-- a box is not in a set
pub has_not : (t i : ℕ) → t < 2 ^ 32 → i < 32 → has (bit_not w32 t) i ≡ not (has t i)
has_not t i h lt = ap (λ (q : ℕ). nat_eq q 1) (bit_at_not w32 t i h lt) ∙ not_digit (bit_at t i) (bit_at-lt t i)

-- all of n boxes
pub has_everyone : (n i : ℕ) → i < n → has (everyone n) i ≡ true
has_everyone zero i lt = absurd (omega arith)
has_everyone (suc n) zero lt = let twice = pow-suc 2 n in let some = pow_pos n in eq-eqb _ 1 (omega arith)
has_everyone (suc n) (suc i) lt =
    let twice = pow-suc 2 n in
    let some = pow_pos n in
    let half : everyone (suc n) / 2 ≡ everyone n = omega arith in
    ap (has (everyone (suc n))) (sym (one-add i)) ∙ sym (has_shr (everyone (suc n)) 1 i) ∙ ap (λ (s : ℕ). has s i) half ∙ has_everyone n i (omega arith)

-- a box of a set below 2 ^ n is below n
pub has_below : (n s i : ℕ) → s < 2 ^ n → has s i ≡ true → i < n
has_below n s i h e = go (cases_lt i n)
  where
    go : ((i < n) ⊎ (n ≤ i)) → i < n
    go (inl lt) = lt
    go (inr le) = absurd (both_ways (has s i) (has_past n s i h le) e)

pub everyone_below : (n : ℕ) → AllBelow n (everyone n)
everyone_below n i = go (cases_lt i n)
  where
    go : ((i < n) ⊎ (n ≤ i)) → has (everyone n) i ≡ nat_lt i n
    go (inl lt) = has_everyone n i lt ∙ sym (lt-ltb i n lt)
    go (inr le) = has_past n (everyone n) i (ones_lt n) le ∙ sym (le-ltb i n le)
