-- What a rule is, and the laws that it keeps. Assumes nothing.
use Rattle.std.specs.Prelude.{◌≡◌, ℕ, ◌<◌, ◌≤◌, Bool, true}
use Rattle.quorum.specs.Sets.{has, everyone, within, added, Part}

-- the number of boxes of a roster, and the sets of them that are quorums
pub record Family : Type 0 where
  pub boxes : ℕ
  pub quorum : ℕ → Bool

-- a roster has 1 to 32 boxes
abbrev pub Roster : ℕ → Type 0
Roster n = (1 ≤ n) × (n ≤ 32)

-- Of a rule: no quorum has a stranger, any two share a box, one stays a quorum as a box of the roster joins it, and the whole roster is one.
pub record Lawful (f : Family) : Type 0 where
  pub roster : Roster f.boxes
  pub inside : (s : ℕ) → f.quorum s ≡ true → within f.boxes s ≡ true
  pub shares : (s t : ℕ) → f.quorum s ≡ true → f.quorum t ≡ true → (i : ℕ) × (has s i ≡ true) × (has t i ≡ true)
  pub grows : (s i : ℕ) → f.quorum s ≡ true → i < f.boxes → f.quorum (added s i) ≡ true
  pub whole : f.quorum (everyone f.boxes) ≡ true

-- Of a clear-view rule besides: no clear set has a stranger, any two quorums and any clear set share a box, every clear set contains a quorum,
-- and the whole roster is clear.
pub record ClearLawful (f : Family) (clear : ℕ → Bool) : Type 0 where
  pub inside : (c : ℕ) → clear c ≡ true → within f.boxes c ≡ true
  pub shares : (s t c : ℕ) → f.quorum s ≡ true → f.quorum t ≡ true → clear c ≡ true → (i : ℕ) × (has s i ≡ true) × (has t i ≡ true) × (has c i ≡ true)
  pub contains : (c : ℕ) → clear c ≡ true → (q : ℕ) × (f.quorum q ≡ true) × Part q c
  pub whole : clear (everyone f.boxes) ≡ true
