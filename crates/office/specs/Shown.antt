-- What is shown of a shift, one thing after another. Assumes nothing.
use Rattle.std.specs.Prelude.{ℕ, List, [], ◌∷◌, Some, None, Option}
use Rattle.quorum.specs.declared.refusals.Refusal.{Refusal}
use Rattle.shift.specs.declared.faults.TextFault.{TextFault}

pub data Shown : Type 0 where
  -- a beat that the run declined
  declined : Refusal → Shown
  -- a phase that was finished: its number, what each box voted for in it, and what each box holds
  phase : ℕ → List (Option ℕ) → List (Option ℕ) → Shown
  -- the fault that ends the reading
  fault : TextFault → Shown

-- the one before the others, if there is one
abbrev pub and_after : Option Shown → List Shown → List Shown
and_after None es = es
and_after (Some e) es = e ∷ es

-- the first of them, if there is one
abbrev pub first_of : List Shown → Option Shown
first_of [] = None
first_of (e ∷ es) = Some e
