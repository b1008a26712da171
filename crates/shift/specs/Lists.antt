-- Numbers with commas between them, and the list that holds them. Assumes nothing.
use Rattle.std.specs.Prelude.{ℕ, cond, List, [], ◌∷◌, ◌++◌, length, take, Some, None, Option, nat_le, nat_lt}
use Rattle.std.specs.List.{slice_split}
use Rattle.std.specs.Option.{option_map}
use Rattle.shift.specs.declared.classes.Class.TheVariants.{Comma}
use Rattle.shift.specs.declared.list.Numbers.{Numbers}
use Rattle.shift.specs.Classes.{is}
use Rattle.shift.specs.Numbers.{number}

-- the numbers of a list
abbrev pub listed : Numbers → List ℕ
listed n = take n.count n.items

-- a number before others, where both are there
abbrev pub followed : Option ℕ → Option (List ℕ) → Option (List ℕ)
followed None ns = None
followed (Some n) ns = option_map (λ l. n ∷ l) ns

-- the numbers that the pieces write, where each writes one
abbrev pub each : List (List ℕ) → Option (List ℕ)
each [] = Some []
each (p ∷ ps) = followed (number p) (each ps)

-- at most 32 numbers
abbrev pub numbers : List ℕ → Option (List ℕ)
numbers bs = cond (nat_le (length (slice_split (is Comma) bs)) 32) (each (slice_split (is Comma) bs)) None

-- the numbers ns with n after them, where there is room
abbrev pub extended : List ℕ → ℕ → Option (List ℕ)
extended ns n = cond (nat_lt (length ns) 32) (Some (ns ++ n ∷ [])) None

-- the same with a number that may be missing
abbrev pub added : List ℕ → Option ℕ → Option (List ℕ)
added ns None = None
added ns (Some n) = extended ns n
