-- The rules that come with the library, by the sets that are quorums and the sets that are clear. Assumes nothing.
use Rattle.std.specs.Prelude.{ℕ, ◌+◌, ◌*◌, ◌/◌, Bool, ◌&&◌, ◌||◌, ◌==◌, nat_le, nat_lt}
use Rattle.quorum.specs.Rules.{Family}
use Rattle.quorum.specs.Sets.{has, count, everyone, within}

-- no stranger, and k boxes or more
abbrev pub at_least : ℕ → ℕ → ℕ → Bool
at_least n k s = within n s && nat_le k (count s)

-- no stranger, and twice the count exceeds n
abbrev pub majority : ℕ → Family
majority n = record { boxes = n; quorum = λ s. within n s && nat_lt n (2 * count s) }

-- no stranger, and e boxes or more
abbrev pub sizes : ℕ → ℕ → Family
sizes n e = record { boxes = n; quorum = at_least n e }

-- more than two thirds
abbrev pub thirds : ℕ → ℕ
thirds n = 2 * n / 3 + 1

-- the quorums below that contain box k; where the roster has no box k, which no making accepts, the rule below
abbrev pub anchored : ℕ → Family → Family
anchored k f = record { boxes = f.boxes; quorum = λ s. f.quorum s && (nat_le f.boxes k || has s k) }

-- the whole roster, and no other set
abbrev pub present : Family → ℕ → Bool
present f s = s == everyone f.boxes
