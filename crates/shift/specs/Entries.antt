-- The key and the value of a text's first line, and what comes after it. Assumes nothing.
use Rattle.std.specs.Prelude.{ℕ, List, [], Some, None, Option}
use Rattle.shift.specs.declared.classes.Class.TheVariants.{Equals, LineEnd}
use Rattle.shift.specs.Classes.{is}
use Rattle.shift.specs.Parts.{parted}

-- what stands before and after the first equals sign of the line that ends at the first line end
abbrev pub of_line : Option (List ℕ × List ℕ) → Option (List ℕ × List ℕ)
of_line None = None
of_line (Some p) = parted (is Equals) p.0

abbrev pub key_and_value : List ℕ → Option (List ℕ × List ℕ)
key_and_value t = of_line (parted (is LineEnd) t)

abbrev pub rest_of : Option (List ℕ × List ℕ) → List ℕ
rest_of None = []
rest_of (Some p) = p.1

-- what stands after the first line end
abbrev pub after : List ℕ → List ℕ
after t = rest_of (parted (is LineEnd) t)
