-- A row has for each box a setup or none; the search finds the first among the boxes of a set, and the boxes that have a setup are a set. Assumes nothing.
use Rattle.std.specs.Prelude.{◌≡◌, ℕ, ◌+◌, ◌*◌, Bool, true, false, cond, not, ◌&&◌, List, [], ◌∷◌, Some, None, Option, ◌≢◌, slice_index_or}
use Rattle.quorum.specs.Sets.{has}

-- what stands at box i of a row: none past its end
abbrev pub entry : {V : Type 0} → List (Option V) → ℕ → Option V
entry row i = slice_index_or row i None

-- the row with none at the boxes that are not in the set; its first entry is that of box i
abbrev pub among_at : {V : Type 0} → List (Option V) → ℕ → ℕ → List (Option V)
among_at [] s i = []
among_at (x ∷ row) s i = cond (has s i) x None ∷ among_at row s (i + 1)

abbrev pub among : {V : Type 0} → List (Option V) → ℕ → List (Option V)
among row s = among_at row s 0

-- the one of two that comes first
abbrev pub sooner : {V : Type 0} → (V → V → Bool) → Option V → Option V → Option V
sooner before None y = y
sooner before (Some a) None = Some a
sooner before (Some a) (Some b) = Some (cond (before b a) b a)

-- the first of a row
abbrev pub first : {V : Type 0} → (V → V → Bool) → List (Option V) → Option V
first before [] = None
first before (x ∷ row) = sooner before x (first before row)

-- The first among the boxes of a set: it stands at one of them, and comes before every different setup that stands at one. There is none
-- where no box of the set has a setup.
abbrev pub IsFirst : {V : Type 0} → (V → V → Bool) → List (Option V) → ℕ → Option V → Type 0
IsFirst before row s None = (i : ℕ) → has s i ≡ true → entry row i ≡ None
IsFirst {V} before row s (Some v) =
    ((i : ℕ) × (has s i ≡ true) × (entry row i ≡ Some v))
    × ((i : ℕ) (w : V) → has s i ≡ true → entry row i ≡ Some w → (w ≢ v) → before v w ≡ true)

-- two setups are the same: neither comes before the other
abbrev pub same : {V : Type 0} → (V → V → Bool) → V → V → Bool
same before v w = not (before v w) && not (before w v)

-- the entry is this setup
abbrev pub is : {V : Type 0} → (V → V → Bool) → V → Option V → Bool
is before v None = false
is before v (Some w) = same before v w

-- the set of the boxes that have v in the row
abbrev pub boxes_with : {V : Type 0} → (V → V → Bool) → V → List (Option V) → ℕ
boxes_with before v [] = 0
boxes_with before v (x ∷ row) = cond (is before v x) 1 0 + 2 * boxes_with before v row
