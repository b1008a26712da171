-- How many boxes sets have together, and that sets which are large enough share a box. Assumes nothing.
use Rattle.std.specs.Prelude.{◌≡◌, ℕ, zero, suc, ◌+◌, ◌*◌, ◌/◌, ◌%◌, ◌^◌, ◌<◌, ◌≤◌, true, false, ◌⊎◌, bit_or, count_ones}
use Rattle.std.proofs.Common.{inl, inr, sym, ap, ◌∙◌, pow-suc, arith}
use Rattle.std.specs.Int.Bits.{or_step}
use Rattle.std.specs.Int.Count.{ones_step, ones-ones}
use Rattle.std.proofs.lemmas.Nat.{ones-le, or_lt}
use Rattle.std.proofs.Math.Pow.{ones_lt}
use Rattle.std.proofs.lemmas.Bool.{cases_lt, eq-eqb}
use Rattle.std.proofs.lemmas.Bool.Decides.{nat_tests}
use Rattle.quorum.specs.Sets.{has, everyone}
use Rattle.quorum.specs.Members.{has_half}

-- three sets of n boxes that have more than 2 n boxes in all share one
pub three_share : (n a b c : ℕ) → a < 2 ^ n → b < 2 ^ n → c < 2 ^ n → 2 * n < count_ones a + count_ones b + count_ones c → (i : ℕ) × (has a i ≡ true) × (has b i ≡ true) × (has c i ≡ true)
three_share zero a b c ha hb hc more = absurd (omega (arith, ones-le 0 a ha, ones-le 0 b hb, ones-le 0 c hc))
three_share (suc n) a b c ha hb hc more = go (cases_lt (a % 2 + b % 2 + c % 2) 3) (three_share n (a / 2) (b / 2) (c / 2))
  where
    go : ((a % 2 + b % 2 + c % 2 < 3) ⊎ (3 ≤ a % 2 + b % 2 + c % 2))
        → (a / 2 < 2 ^ n → b / 2 < 2 ^ n → c / 2 < 2 ^ n → 2 * n < count_ones (a / 2) + count_ones (b / 2) + count_ones (c / 2) → (i : ℕ) × (has (a / 2) i ≡ true) × (has (b / 2) i ≡ true) × (has (c / 2) i ≡ true))
        → (i : ℕ) × (has a i ≡ true) × (has b i ≡ true) × (has c i ≡ true)
    go (inl few) rest =
        let half = pow-suc 2 n in
        let r = rest (omega arith) (omega arith) (omega arith) (omega (arith, ones_step a, ones_step b, ones_step c)) in
        (suc r.0, has_half a r.0 ∙ r.1, has_half b r.0 ∙ r.2, has_half c r.0 ∙ r.3)
    go (inr all) rest = (0, eq-eqb _ 1 (omega arith), eq-eqb _ 1 (omega arith), eq-eqb _ 1 (omega arith))

-- two sets of n boxes that have more than n boxes in all share one
pub two_share : (n a b : ℕ) → a < 2 ^ n → b < 2 ^ n → n < count_ones a + count_ones b → (i : ℕ) × (has a i ≡ true) × (has b i ≡ true)
two_share n a b ha hb more =
    let r = three_share n a b (everyone n) ha hb (ones_lt n) (omega (arith, ones-ones n)) in (r.0, r.1, r.2)

-- a set does not shrink as boxes join it
pub count_or : (n s t : ℕ) → s < 2 ^ n → count_ones s ≤ count_ones (bit_or s t)
count_or zero s t h = omega (arith, ones-le 0 s h)
count_or (suc n) s t h =
    let half = pow-suc 2 n in
    let split = or_step s t in
    let rest : bit_or s t / 2 ≡ bit_or (s / 2) (t / 2) = omega arith in
    let more = count_or n (s / 2) (t / 2) (omega arith) in
    omega (arith, ones_step s, ones_step (bit_or s t), ap count_ones rest)

-- sets that share no box have together as many boxes as one and the other
pub count_apart : (n s t : ℕ) → s < 2 ^ n → t < 2 ^ n → ((i : ℕ) → has s i ≡ true → has t i ≡ false) → count_ones (bit_or s t) ≡ count_ones s + count_ones t
count_apart zero s t hs ht apart = omega (arith, ones-le 0 s hs, ones-le 0 t ht, ones-le 0 (bit_or s t) (or_lt 0 s t hs ht))
count_apart (suc n) s t hs ht apart =
    let half = pow-suc 2 n in
    let split = or_step s t in
    let first = apart 0 in
    let low : s % 2 + t % 2 ≤ 1 = grind (arith, nat_tests) in
    let rest : bit_or s t / 2 ≡ bit_or (s / 2) (t / 2) = omega arith in
    let more = count_apart n (s / 2) (t / 2) (omega arith) (omega arith) (λ i h. sym (has_half t i) ∙ apart (suc i) (has_half s i ∙ h)) in
    omega (arith, ones_step s, ones_step t, ones_step (bit_or s t), ap count_ones rest)
