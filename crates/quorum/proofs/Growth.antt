-- A quorum grows: a superset of it within the roster is a quorum. Assumes nothing.
use Rattle.std.proofs.Common.{◌≡◌, ℕ, zero, suc, ◌+◌, ◌/◌, ◌^◌, ◌<◌, ◌≤◌, Bool, true, false, ◌||◌, ◌⊎◌, sym, refl, ap, ◌∙◌, subst, inl, inr, pow-suc, arith, lit<}
use Rattle.std.proofs.lemmas.Bool.{both_ways, cases_Bool, cases_eq, ltb-true, or_cases, or_left, or_right}
use Rattle.std.proofs.lemmas.Bool.Decides.{nat_tests}
use Rattle.quorum.specs.Rules.{Family, Lawful}
use Rattle.quorum.specs.Sets.{added, has, within, Part}
use Rattle.quorum.specs.Members.{has_below, has_half, has_or, has_past, has_shr}

-- sets with the same boxes are the same
pub same_boxes : (k s t : ℕ) → s < 2 ^ k → t < 2 ^ k → ((i : ℕ) → has s i ≡ has t i) → s ≡ t
same_boxes zero s t hs ht same = omega arith
same_boxes (suc k) s t hs ht same =
    let twice = pow-suc 2 k in
    let rest : s / 2 ≡ t / 2 = same_boxes k (s / 2) (t / 2) (omega arith) (omega arith) (λ i. has_shr s 1 i ∙ same (1 + i) ∙ sym (has_shr t 1 i)) in
    let first = same 0 in
    grind (arith, nat_tests)

-- and so are two of which each is part of the other
pub same_parts : (k s t : ℕ) → s < 2 ^ k → t < 2 ^ k → Part s t → Part t s → s ≡ t
same_parts k s t hs ht there back = same_boxes k s t hs ht (λ i. each (has s i) (has t i) (there i) (back i))
  where
    each : (a b : Bool) → (a ≡ true → b ≡ true) → (b ≡ true → a ≡ true) → a ≡ b
    each true b f g = sym (f refl)
    each false true f g = g refl
    each false false f g = refl

-- the set of box n alone
has_own : (n : ℕ) → has (2 ^ n) n ≡ true
has_own zero = refl
has_own (suc n) =
    let twice = pow-suc 2 n in
    let half : 2 ^ suc n / 2 ≡ 2 ^ n = omega arith in
    has_half (2 ^ suc n) n ∙ ap (λ (s : ℕ). has s n) half ∙ has_own n

own_only : (n i : ℕ) → has (2 ^ n) i ≡ true → i ≡ n
own_only zero zero h = omega arith
own_only zero (suc i) h = absurd (both_ways (has 1 (suc i)) (has_past 1 1 (suc i) (lit< tt) (omega arith)) h)
own_only (suc n) zero h = let twice = pow-suc 2 n in absurd (grind (arith, nat_tests))
own_only (suc n) (suc i) h =
    let twice = pow-suc 2 n in
    let half : 2 ^ suc n / 2 ≡ 2 ^ n = omega arith in
    ap suc (own_only n i (sym (has_half (2 ^ suc n) i ∙ ap (λ (s : ℕ). has s i) half) ∙ h))

-- a box of the superset joins
part_added : (q s n : ℕ) → Part q s → has s n ≡ true → Part (added q n) s
part_added q s n part there i h = go (or_cases (has q i) (has (2 ^ n) i) (sym (has_or q (2 ^ n) i) ∙ h))
  where
    go : (has q i ≡ true) ⊎ (has (2 ^ n) i ≡ true) → has s i ≡ true
    go (inl e) = part i e
    go (inr e) = ap (has s) (own_only n i e) ∙ there

module _ (f : Family) (law : Lawful f) (s : ℕ) (inside : within f.boxes s ≡ true) where
  small : s < 2 ^ f.boxes
  small = ltb-true s (2 ^ f.boxes) inside

  -- the same where the sets differ below n alone
  grown : (n q : ℕ) → f.quorum q ≡ true → Part q s → ((i : ℕ) → n ≤ i → has s i ≡ true → has q i ≡ true) → f.quorum s ≡ true
  grown zero q h part back = subst (λ (t : ℕ). f.quorum t ≡ true) (same_parts f.boxes q s (ltb-true q (2 ^ f.boxes) (law.inside q h)) small part (λ i. back i (omega arith))) h
  grown (suc n) q h part back = go (cases_Bool (has s n)) (grown n)
    where
      Rest : Type 0
      Rest = (p : ℕ) → f.quorum p ≡ true → Part p s → ((i : ℕ) → n ≤ i → has s i ≡ true → has p i ≡ true) → f.quorum s ≡ true

      joined : (i : ℕ) → n ≤ i → has s i ≡ true → has (added q n) i ≡ true
      joined i le d = has_or q (2 ^ n) i ∙ pick (cases_eq i n)
        where
          pick : (i ≡ n) ⊎ (i ≡ n → ⊥) → (has q i || has (2 ^ n) i) ≡ true
          pick (inl e) = or_right (has q i) (has (2 ^ n) i) (ap (has (2 ^ n)) e ∙ has_own n)
          pick (inr e) = or_left (has q i) (has (2 ^ n) i) (back i (omega arith) d)

      kept : has s n ≡ false → (i : ℕ) → n ≤ i → has s i ≡ true → has q i ≡ true
      kept none i le d = pick (cases_eq i n)
        where
          pick : (i ≡ n) ⊎ (i ≡ n → ⊥) → has q i ≡ true
          pick (inl e) = absurd (both_ways (has s n) none (ap (has s) (sym e) ∙ d))
          pick (inr e) = back i (omega arith) d

      go : (has s n ≡ true) ⊎ (has s n ≡ false) → Rest → f.quorum s ≡ true
      go (inl there) rest = rest (added q n) (law.grows q n h (has_below f.boxes s n small there)) (part_added q s n part there) joined
      go (inr none) rest = rest q h part (kept none)

pub quorum_grows : (f : Family) → Lawful f → (q s : ℕ) → f.quorum q ≡ true → Part q s → within f.boxes s ≡ true → f.quorum s ≡ true
quorum_grows f law q s h part inside =
    grown f law s inside f.boxes q h part (λ i le e. absurd (both_ways (has s i) (has_past f.boxes s i (small f law s inside) le) e))
