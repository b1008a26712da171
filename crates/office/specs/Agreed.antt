-- What the office can rely on in every answer, in the words of what it shows. Assumes nothing.
use Rattle.std.specs.Prelude.{◌≡◌, ℕ, ◌<◌, ◌≤◌, List, [], ◌∷◌, length, map, Some, Ok, Err, Option, Result, slice_index_or}
use Rattle.setup.specs.Rows.{entry}
use Rattle.agreement.specs.Slips.{Stands}
use Rattle.shift.specs.declared.faults.TextFault.{TextFault}
use Rattle.office.specs.Heads.{Begun, head}
use Rattle.office.specs.Shown.{Shown}
use Rattle.office.specs.Shown.Shown.{declined, fault, phase}

-- the phases that are shown, one after another: the number of each, and what the boxes hold
abbrev pub phases : List Shown → List (ℕ × List (Option ℕ))
phases [] = []
phases (phase k votes held ∷ es) = (k, held) ∷ phases es
phases (declined r ∷ es) = phases es
phases (fault f ∷ es) = phases es

abbrev pub phase_numbers : List Shown → List ℕ
phase_numbers es = map (λ p. p.0) (phases es)

abbrev pub held_rows : List Shown → List (List (Option ℕ))
held_rows es = map (λ p. p.1) (phases es)

-- in the s-th phase that is shown, counted from 0, box i holds v
abbrev pub Shows : List Shown → ℕ → ℕ → ℕ → Type 0
Shows es s i v = entry (slice_index_or (held_rows es) s []) i ≡ Some v

-- The phases that are shown are numbered in order from 0, and each shows every box. No two setups that are shown in them as held differ, whichever the boxes and phases; a box that is once shown
-- with one is shown with it in every later phase; and each was proposed.
pub record Agreed (proposals : List ℕ) (es : List Shown) : Type 0 where
  pub numbered : (s : ℕ) → s < length (phase_numbers es) → slice_index_or (phase_numbers es) s 0 ≡ s
  pub whole : (s : ℕ) → s < length (held_rows es) → length (slice_index_or (held_rows es) s []) ≡ length proposals
  pub one : (s t i j v w : ℕ) → Shows es s i v → Shows es t j w → v ≡ w
  pub stays : (s t i v : ℕ) → s ≤ t → t < length (held_rows es) → Shows es s i v → Shows es t i v
  pub proposed : (s i v : ℕ) → Shows es s i v → Stands v (map Some proposals)

-- the setups that a text proposes
abbrev pub proposals_of : Result Begun TextFault → List ℕ
proposals_of (Ok h) = h.proposals
proposals_of (Err f) = []

-- those of its head, even where the text is too long
abbrev pub proposals : List ℕ → List ℕ
proposals text = proposals_of (head 1 text)
