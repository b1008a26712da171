-- The parts of a text before and after a byte. Assumes nothing.
use Rattle.std.specs.Prelude.{ℕ, ◌+◌, Bool, List, take, drop, Option}
use Rattle.std.specs.Option.{option_map}
use Rattle.std.specs.Borrow.{Bor}
use Rattle.std.specs.List.{position}

-- what stands before and after the first byte that passes the test
abbrev pub parted : (ℕ → Bool) → List ℕ → Option (List ℕ × List ℕ)
parted test bs = option_map (λ i. (take i bs, drop (i + 1) bs)) (position test bs)

-- the bytes of two parts
abbrev pub both : Bor (List ℕ) × Bor (List ℕ) → List ℕ × List ℕ
both p = (p.0.now, p.1.now)
