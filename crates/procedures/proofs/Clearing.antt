-- The boxes that are not in a clear set. Assumes nothing.
use Rattle.std.proofs.Common.{◌≡◌, ℕ, ◌-◌, ◌^◌, ◌≤◌, min, Bool, true, ap, ◌∙◌, arith}
use Rattle.std.proofs.lemmas.Bool.{ltb-true}
use Rattle.quorum.specs.Rules.{ClearLawful, Family, Lawful}
use Rattle.quorum.specs.Sets.{everyone}
use Rattle.procedures.specs.Received.{unheard}

module _ (f : Family) (clear : ℕ → Bool) (law : Lawful f) (view : ClearLawful f clear) (n heard all : ℕ) (boxes : n ≡ f.boxes) (is : all ≡ everyone (min n 32)) where
  -- a roster has 32 boxes at most
  whole : all ≡ everyone f.boxes
  whole = is ∙ ap everyone (omega (arith, boxes, law.roster))

  pub unheard_fits : clear heard ≡ true → heard ≤ all
  unheard_fits h = omega (arith, whole, ltb-true heard (2 ^ f.boxes) (view.inside heard h))

  pub unheard_is : (r : ℕ) → r ≡ all - heard → r ≡ unheard f.boxes heard
  unheard_is r e = e ∙ ap (λ (s : ℕ). s - heard) whole
