-- The class of each byte. Assumes nothing.
use Rattle.std.specs.Prelude.{ℕ, Bool, cond, not, ◌&&◌, ◌||◌, ◌==◌, nat_le}
use Rattle.shift.specs.declared.classes.Class.{Class}
use Rattle.shift.specs.declared.classes.Class.TheVariants.{Letter, Digit, Equals, Comma, LineEnd, Other}

abbrev pub letter : ℕ → Bool
letter b = nat_le 97 b && nat_le b 122

abbrev pub digit : ℕ → Bool
digit b = nat_le 48 b && nat_le b 57

-- byte b is of the class: 61 is the equals sign, 44 the comma, 10 the line end
abbrev pub is : Class → ℕ → Bool
is Letter b = letter b
is Digit b = digit b
is Equals b = b == 61
is Comma b = b == 44
is LineEnd b = b == 10
is Other b = not (letter b || digit b || b == 61 || b == 44 || b == 10)

abbrev pub class : ℕ → Class
class b =
    cond (letter b) Letter (cond (digit b) Digit (cond (b == 61) Equals (cond (b == 44) Comma (cond (b == 10) LineEnd Other))))
