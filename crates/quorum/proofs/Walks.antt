-- The lowest box of a set, as the code finds it. Assumes nothing.
use Rattle.std.proofs.Common.{◌≡◌, ℕ, zero, suc, ◌/◌, ◌%◌, ◌^◌, ◌<◌, ◌≤◌, ◌-◌, true, false, nat_eq, ap, sym, ◌∙◌, one-mul, le-div_iff_mul-le, pow_pos, pow-suc, min, bit_and, arith, w32}
use Rattle.std.specs.Int.Bits.{and_self, and_step}
use Rattle.std.specs.Int.Count.{count_trailing_zeros}
use Rattle.std.proofs.lemmas.Bool.{eq-eqb, eqb-false, eqb-true, ne_eqb}
use Rattle.std.proofs.lemmas.Nat.Bits.{bit_at_lowest, bit_at-trailing_zeros}
use Rattle.quorum.specs.Members.{has_half}
use Rattle.quorum.specs.Sets.{has}
use Rattle.quorum.specs.Walking.{Lowest, without}

module _ (s : ℕ) (some : 0 < s) (few : s < 2 ^ 32) where
  at : ℕ
  at = count_trailing_zeros 32 s

  pub lowest_found : Lowest s (count_trailing_zeros 32 s)
  lowest_found =
      let found = bit_at-trailing_zeros w32 s some few in
      (found.0, eq-eqb _ 1 found.1, λ j lt. ap (λ (b : ℕ). nat_eq b 1) (found.2 j lt))

-- ---- what is left without the lowest box

odd_lowest : (s : ℕ) → has s 0 ≡ nat_eq (s % 2) 1
odd_lowest s = ap (λ (b : ℕ). nat_eq b 1) (bit_at_lowest s)

pub record Left (s i : ℕ) : Type 0 where
  pub below : (j : ℕ) → j ≤ i → has (without s i) j ≡ false
  pub above : (j : ℕ) → i < j → has (without s i) j ≡ has s j

even : (s : ℕ) → has s 0 ≡ false → s % 2 ≡ 0
even s none = omega (arith, eqb-false (s % 2) 1 (sym (odd_lowest s) ∙ none))

-- an even set, from what is so of its half
doubled : (i s : ℕ) → s % 2 ≡ 0 → Left (s / 2) i → Left s (suc i)
doubled i s e rest = record { below = below; above = above }
  where
    half : (s - 2 ^ suc i) / 2 ≡ s / 2 - 2 ^ i
    half = omega (arith, e, pow-suc 2 i)

    below : (j : ℕ) → j ≤ suc i → has (s - 2 ^ suc i) j ≡ false
    below zero le = odd_lowest (s - 2 ^ suc i) ∙ ne_eqb ((s - 2 ^ suc i) % 2) 1 (λ o. omega (arith, e, pow-suc 2 i))
    below (suc j) le = has_half (s - 2 ^ suc i) j ∙ ap (λ (h : ℕ). has h j) half ∙ rest.below j (omega (arith, le))

    above : (j : ℕ) → suc i < j → has (s - 2 ^ suc i) j ≡ has s j
    above zero lt = absurd (omega arith)
    above (suc j) lt = has_half (s - 2 ^ suc i) j ∙ ap (λ (h : ℕ). has h j) half ∙ rest.above j (omega (arith, lt)) ∙ sym (has_half s j)

pub left_without : (i s : ℕ) → has s i ≡ true → ((j : ℕ) → j < i → has s j ≡ false) → Left s i
left_without zero s inside none = record { below = below; above = above }
  where
    odd : s % 2 ≡ 1
    odd = eqb-true (s % 2) 1 (sym (odd_lowest s) ∙ inside)

    below : (j : ℕ) → j ≤ 0 → has (s - 1) j ≡ false
    below zero le = odd_lowest (s - 1) ∙ ne_eqb ((s - 1) % 2) 1 (λ e. omega (arith, odd))
    below (suc j) le = absurd (omega arith)

    above : (j : ℕ) → 0 < j → has (s - 1) j ≡ has s j
    above zero lt = absurd (omega arith)
    above (suc j) lt =
        let same : (s - 1) / 2 ≡ s / 2 = omega (arith, odd) in
        has_half (s - 1) j ∙ ap (λ (h : ℕ). has h j) same ∙ sym (has_half s j)
left_without (suc i) s inside none =
    doubled i s (even s (none 0 (omega arith))) (left_without i (s / 2) (sym (has_half s i) ∙ inside) (λ j lt. sym (has_half s j) ∙ none (suc j) (omega (arith, lt))))

-- a set with box i is no smaller than that box alone
pub has_least : (s i : ℕ) → has s i ≡ true → 2 ^ i ≤ s
has_least s i inside =
    let one : 1 ≤ s / 2 ^ i = omega (arith, eqb-true (s / 2 ^ i % 2) 1 inside) in
    omega (arith, (le-div_iff_mul-le (pow_pos i)).0 one, one-mul (2 ^ i))

-- ---- the lowest box is cleared: what a set and the number before it have in common

cleared : (i s : ℕ) → has s i ≡ true → ((j : ℕ) → j < i → has s j ≡ false) → bit_and s (s - 1) ≡ without s i
cleared zero s inside none =
    let odd : s % 2 ≡ 1 = eqb-true (s % 2) 1 (sym (odd_lowest s) ∙ inside) in
    let half : (s - 1) / 2 ≡ s / 2 = omega (arith, odd) in
    let low : min (s % 2) ((s - 1) % 2) ≡ 0 = omega (arith, odd) in
    omega (arith, odd, and_step s (s - 1), ap (bit_and (s / 2)) half, and_self (s / 2), low)
cleared (suc i) s inside none =
    let e = even s (none 0 (omega arith)) in
    let rest = cleared i (s / 2) (sym (has_half s i) ∙ inside) (λ j lt. sym (has_half s j) ∙ none (suc j) (omega (arith, lt))) in
    let half : (s - 1) / 2 ≡ s / 2 - 1 = omega (arith, e) in
    let low : min (s % 2) ((s - 1) % 2) ≡ 0 = omega (arith, e) in
    omega (arith, e, and_step s (s - 1), ap (bit_and (s / 2)) half, rest, low, pow-suc 2 i)

pub lowest_cleared : (s i : ℕ) → Lowest s i → bit_and s (s - 1) ≡ without s i
lowest_cleared s i low = cleared i s low.1 low.2
