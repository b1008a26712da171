-- What a decimal number is worth, and which texts are one. Assumes nothing.
use Rattle.std.specs.Prelude.{ℕ, ◌+◌, ◌-◌, ◌*◌, ◌^◌, Bool, true, false, cond, not, ◌&&◌, List, [], ◌∷◌, Some, None, Option, ◌==◌, nat_lt}
use Rattle.shift.specs.Classes.{digit}

-- n with one more digit after it; the digits are the bytes from 48 on
abbrev pub appended : ℕ → ℕ → ℕ
appended n b = 10 * n + (b - 48)

-- n with digits after it
abbrev pub worth : ℕ → List ℕ → ℕ
worth n [] = n
worth n (b ∷ bs) = worth (appended n b) bs

abbrev pub digits : List ℕ → Bool
digits [] = true
digits (b ∷ bs) = digit b && digits bs

-- there is a byte, and no 0 before another
abbrev pub led : List ℕ → Bool
led [] = false
led (b ∷ []) = true
led (b ∷ c ∷ bs) = not (b == 48)

-- n, where it has 32 bits at most
abbrev pub fitting : ℕ → Option ℕ
fitting n = cond (nat_lt n (2 ^ 32)) (Some n) None

abbrev pub number : List ℕ → Option ℕ
number bs = cond (led bs && digits bs) (fitting (worth 0 bs)) None
