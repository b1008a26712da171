-- The row among a set, and the boxes of a row that have a setup, as a set. Assumes nothing.
use Rattle.std.proofs.Common.{◌≡◌, ℕ, zero, suc, ◌+◌, ◌*◌, ◌/◌, ◌^◌, ◌<◌, ◌≤◌, Bool, true, false, cond, List, [], ◌∷◌, length, None, Option, sym, refl, ap, ◌∙◌, subst, pow-suc, arith, lit<, bit_or}
use Rattle.std.specs.Int.Bits.{or_step}
use Rattle.std.proofs.lemmas.Bool.{lt-ltb}
use Rattle.std.proofs.lemmas.Bool.Decides.{nat_tests}
use Rattle.quorum.specs.Sets.{added, everyone, has, within}
use Rattle.quorum.specs.Members.{has_everyone, has_half, has_past}
use Rattle.setup.specs.Rows.{among, among_at, boxes_with, entry, is}

pub length_among : {V : Type 0} (row : List (Option V)) (s i : ℕ) → length (among_at row s i) ≡ length row
length_among [] s i = refl
length_among (x ∷ row) s i = ap suc (length_among row s (i + 1))

-- the row among a set that has all its boxes
among_whole : {V : Type 0} (row : List (Option V)) (s i : ℕ) → ((j : ℕ) → i ≤ j → j < i + length row → has s j ≡ true) → among_at row s i ≡ row
among_whole [] s i whole = refl
among_whole {V} (x ∷ row) s i whole =
    ap (λ (b : Bool). cond b x None ∷ among_at row s (i + 1)) (whole i (omega arith) (omega arith))
    ∙ ap {B = List (Option V)} (λ (l : List (Option V)). x ∷ l) (among_whole row s (i + 1) (λ j le lt. whole j (omega arith) (omega arith)))

pub among_all : {V : Type 0} (row : List (Option V)) (n : ℕ) → length row ≤ n → among row (everyone n) ≡ row
among_all row n few = among_whole row (everyone n) 0 (λ j le lt. has_everyone n j (omega arith))

-- a box above all others of a set joins it
pub added_above : (i s : ℕ) → s < 2 ^ i → added s i ≡ s + 2 ^ i
added_above zero s h = let none : s ≡ 0 = omega arith in ap (λ (x : ℕ). bit_or x 1) none ∙ ap (λ (x : ℕ). x + 1) (sym none)
added_above (suc i) s h =
    let twice = pow-suc 2 i in
    let half : 2 ^ suc i / 2 ≡ 2 ^ i = omega arith in
    let rest : bit_or (s / 2) (2 ^ suc i / 2) ≡ s / 2 + 2 ^ i = ap (bit_or (s / 2)) half ∙ added_above i (s / 2) (omega arith) in
    omega (arith, or_step s (2 ^ suc i))

module _ {V : Type 0} (before : V → V → Bool) (v : V) where
  -- one box or none
  digit : (b : Bool) → cond b 1 0 < 2
  digit true = omega arith
  digit false = omega arith

  -- of a row of n boxes they are among n boxes
  pub with_below : (row : List (Option V)) → boxes_with before v row < 2 ^ length row
  with_below [] = omega arith
  with_below (x ∷ row) =
      let half = pow-suc 2 (length row) in
      let rest = with_below row in
      omega (arith, digit (is before v x))

  pub with_within : (row : List (Option V)) (n : ℕ) → length row ≡ n → within n (boxes_with before v row) ≡ true
  with_within row n e = lt-ltb (boxes_with before v row) (2 ^ n) (subst (λ (k : ℕ). boxes_with before v row < 2 ^ k) e (with_below row))

  -- box i is among them exactly if it has the setup
  pub with_has : (row : List (Option V)) (i : ℕ) → has (boxes_with before v row) i ≡ is before v (entry row i)
  with_has [] i = has_past 0 0 i (lit< tt) (omega arith)
  with_has (x ∷ row) zero = first (is before v x)
    where
      first : (b : Bool) → has (cond b 1 0 + 2 * boxes_with before v row) 0 ≡ b
      first true = grind (arith, nat_tests)
      first false = grind (arith, nat_tests)
  with_has (x ∷ row) (suc i) =
      let rest : (cond (is before v x) 1 0 + 2 * boxes_with before v row) / 2 ≡ boxes_with before v row = omega (arith, digit (is before v x)) in
      has_half (boxes_with before v (x ∷ row)) i ∙ ap (λ (s : ℕ). has s i) rest ∙ with_has row i
