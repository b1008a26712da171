-- The count of a set is the number of its boxes, counted one by one. Assumes nothing.
use Rattle.std.proofs.Common.{◌≡◌, ℕ, zero, suc, ◌+◌, ◌/◌, ◌%◌, ◌^◌, ◌<◌, ◌≤◌, count_ones, Bool, true, false, cond, refl, ap, ◌∙◌, pow-suc, one-add, arith}
use lib.Count.{ones, ones-le, ones_step}
use Rattle.std.proofs.lemmas.Bool.Decides.{nat_tests}
use Rattle.quorum.specs.Sets.{has, tally}
use Rattle.quorum.specs.Members.{has_shr}

tally_same : (p q : ℕ → Bool) → ((i : ℕ) → p i ≡ q i) → (n : ℕ) → tally p n ≡ tally q n
tally_same p q e zero = refl
tally_same p q e (suc n) = ap (λ (b : Bool). cond b (1 + tally p n) (tally p n)) (e n) ∙ ap (λ (k : ℕ). cond (q n) (1 + k) k) (tally_same p q e n)

-- box 0, and the boxes above it
tally_low : (p : ℕ → Bool) (n : ℕ) → tally p (suc n) ≡ cond (p 0) 1 0 + tally (λ i. p (suc i)) n
tally_low p zero = go (p 0)
  where
    go : (b : Bool) → cond b (1 + 0) 0 ≡ cond b 1 0 + 0
    go true = refl
    go false = refl
tally_low p (suc n) = go (p (suc n)) (tally_low p n)
  where
    rest : ℕ
    rest = tally (λ i. p (suc i)) n

    go : (b : Bool) → tally p (suc n) ≡ cond (p 0) 1 0 + rest → cond b (1 + tally p (suc n)) (tally p (suc n)) ≡ cond (p 0) 1 0 + cond b (1 + rest) rest
    go true e = omega arith
    go false e = e

low : (s : ℕ) → s % 2 ≡ cond (has s 0) 1 0
low s = grind (arith, nat_tests)

pub count_tally : (n s : ℕ) → s < 2 ^ n → ones s ≡ tally (has s) n
count_tally zero s h = omega (arith, ones-le 0 s h)
count_tally (suc n) s h =
    let half : s / 2 < 2 ^ n = omega (arith, pow-suc 2 n) in
    let rest : ones (s / 2) ≡ tally (λ i. has s (suc i)) n =
    count_tally n (s / 2) half ∙ tally_same (has (s / 2)) (λ i. has s (suc i)) (λ i. has_shr s 1 i ∙ ap (has s) (one-add i)) n in
    omega (arith, ones_step s, low s, tally_low (has s) n)

-- of a set of 32 bits
pub size_tally : (s : ℕ) → s < 2 ^ 32 → (count_ones s ≡ tally (has s) 32) × (count_ones s ≤ 32)
size_tally s h = (count_tally 32 s h, ones-le 32 s h)
