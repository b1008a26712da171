-- The lowest box that passes a test. Assumes nothing.
use Rattle.std.specs.Prelude.{◌≡◌, ℕ, zero, suc, ◌+◌, ◌<◌, Bool, true, false, cond, Some, None, Option}

-- the lowest of the m boxes from i on that passes the test
abbrev pub lowest_from : (ℕ → Bool) → ℕ → ℕ → Option ℕ
lowest_from test i zero = None
lowest_from test i (suc m) = cond (test i) (Some i) (lowest_from test (i + 1) m)

-- the lowest box below n that passes the test
abbrev pub lowest : (ℕ → Bool) → ℕ → Option ℕ
lowest test n = lowest_from test 0 n

-- It is a box below n, it passes, and none below it does. There is none where no box below n passes.
abbrev pub IsLowest : (ℕ → Bool) → ℕ → Option ℕ → Type 0
IsLowest test n None = (i : ℕ) → i < n → test i ≡ false
IsLowest test n (Some i) = (i < n) × (test i ≡ true) × ((j : ℕ) → j < i → test j ≡ false)
