-- Sets of boxes. A set is a number whose bit i stands for box i. Assumes nothing.
use Rattle.std.specs.Prelude.{◌≡◌, ℕ, zero, suc, ◌+◌, ◌-◌, ◌/◌, ◌%◌, ◌^◌, ◌≤◌, Bool, true, false, cond, ◌==◌, bit_or, count_ones, nat_lt}

-- box i is in the set
abbrev pub has : ℕ → ℕ → Bool
has s i = s / 2 ^ i % 2 == 1

-- how many boxes the set has: its set bits
abbrev pub count : ℕ → ℕ
count s = count_ones s

-- how many of the boxes below n pass the test
abbrev pub tally : (ℕ → Bool) → ℕ → ℕ
tally test zero = 0
tally test (suc n) = cond (test n) (1 + tally test n) (tally test n)

-- the set of all boxes below n; `AllBelow` says so box by box
abbrev pub everyone : ℕ → ℕ
everyone n = 2 ^ n - 1

abbrev pub AllBelow : ℕ → ℕ → Type 0
AllBelow n s = (i : ℕ) → has s i ≡ nat_lt i n

-- the set has no box at n or above; `NoneAbove` says so box by box
abbrev pub within : ℕ → ℕ → Bool
within n s = nat_lt s (2 ^ n)

abbrev pub NoneAbove : ℕ → ℕ → Type 0
NoneAbove n s = (i : ℕ) → n ≤ i → has s i ≡ false

-- the set with box i added
abbrev pub added : ℕ → ℕ → ℕ
added s i = bit_or s (2 ^ i)

-- every box of s is in t
abbrev pub Part : ℕ → ℕ → Type 0
Part s t = (i : ℕ) → has s i ≡ true → has t i ≡ true
