-- The boxes of a set that have a setup, box by box. Assumes nothing.
use Rattle.std.proofs.Common.{◌≡◌, ℕ, ◌^◌, ◌<◌, Bool, true, false, cond, ◌&&◌, ◌==◌, List, length, None, Option, refl, sym, ap, ◌∙◌, zero-add}
use Rattle.std.specs.Prelude.{Decides}
use Rattle.std.proofs.lemmas.Bool.{and_from, and_parts, eq-eqb, eqb-true, ltb-true}
use Rattle.quorum.proofs.Growth.{same_parts}
use Rattle.quorum.specs.Members.{has_past, within_decides}
use Rattle.quorum.specs.Sets.{has, NoneAbove}
use Rattle.setup.proofs.Gathering.{with_below, with_has}
use Rattle.setup.proofs.Searching.{entry_among}
use Rattle.setup.specs.Rows.{among, boxes_with, entry, is}

module _ {V : Type 0} (before : V → V → Bool) (v : V) (row : List (Option V)) (s : ℕ) where
  abbrev those : ℕ
  those = boxes_with before v (among row s)

  here : (b : Bool) (x : Option V) → is before v (cond b x None) ≡ (b && is before v x)
  here true x = refl
  here false x = refl

  -- a box is among them exactly if the set has it and its entry is the setup
  pub has_those : (i : ℕ) → has those i ≡ (has s i && is before v (entry row i))
  has_those i =
      with_has before v (among row s) i
      ∙ ap (is before v) (entry_among row s 0 i ∙ ap (λ (j : ℕ). cond (has s j) (entry row i) None) (zero-add i))
      ∙ here (has s i) (entry row i)

  few : s < 2 ^ 32 → those < 2 ^ 32
  few h =
      let none : NoneAbove 32 those = λ i le. has_those i ∙ ap (λ (b : Bool). b && is before v (entry row i)) (has_past 32 s i h le) in
      ltb-true those (2 ^ 32) ((within_decides (length (among row s)) 32 those (with_below before v (among row s))).1 none)

  -- they are the whole set exactly if every box of it has the setup
  pub all_those : s < 2 ^ 32 → Decides (those == s) ((i : ℕ) → has s i ≡ true → is before v (entry row i) ≡ true)
  all_those h = (
    λ e i there. (and_parts (has s i) (is before v (entry row i)) (sym (has_those i) ∙ ap (λ (t : ℕ). has t i) (eqb-true those s e) ∙ there)).1,
    λ all. eq-eqb those s (same_parts 32 those s (few h) h (λ i there. (and_parts (has s i) (is before v (entry row i)) (sym (has_those i) ∙ there)).0) (λ i there. has_those i ∙ and_from (has s i) (is before v (entry row i)) there (all i there))),
  )
