-- The boxes of a set one after another, from the lowest up. Assumes nothing.
use Rattle.std.specs.Prelude.{◌≡◌, ℕ, ◌-◌, ◌^◌, Some, Option, MatchOption}
use Rattle.quorum.specs.Boxes.{IsLowest}
use Rattle.quorum.specs.Sets.{has}
use Rattle.quorum.specs.declared.members.Members.{Members}

-- box i is the lowest of the set
abbrev pub Lowest : ℕ → ℕ → Type 0
Lowest s i = IsLowest (has s) 32 (Some i)

-- the set without one of its boxes
abbrev pub without : ℕ → ℕ → ℕ
without s i = s - 2 ^ i

-- the lowest box comes and is left out; none comes where none is left
abbrev pub NextBox : Members → Option ℕ → Members → Type 0
NextBox m r m' = MatchOption r ((m.left ≡ 0) × (m' ≡ m)) (λ i. Lowest m.left i × (m'.left ≡ without m.left i))
