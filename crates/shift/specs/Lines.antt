-- How a reader goes through the lines of a text. Assumes nothing.
use Rattle.std.specs.Prelude.{ℕ, ◌+◌, cond, List, length, drop, Some, None, Ok, Err, Option, Result, nat_le}
use Rattle.std.specs.Str.{bytes_eq}
use Rattle.shift.specs.declared.faults.Cause.TheVariants.{Long, Key}
use Rattle.shift.specs.declared.faults.Spot.{Spot}
use Rattle.shift.specs.declared.faults.TextFault.{TextFault}
use Rattle.shift.specs.declared.line.Line.{Line}
use Rattle.shift.specs.declared.reader.Reader.{Reader}
use Rattle.shift.specs.Entries.{key_and_value}
use Rattle.shift.specs.Faults.{at_line}

-- what is left of the text
abbrev pub left : Reader → List ℕ
left r = drop r.at r.text.now

-- where the value of a line begins: after a key that is so long, and the equals sign
abbrev pub value_spot : ℕ → ℕ → Spot
value_spot n long = record { line = n; column = long + 2 }

abbrev pub spot_of : Line → Spot
spot_of l = value_spot l.number (length l.key.now)

-- a line as it is handed out: its key, its value and the spot of the value
abbrev pub bytes_of : Line → List ℕ × List ℕ × Spot
bytes_of l = (l.key.now, l.value.now, spot_of l)

-- line n, of this key and value, is to have the key
abbrev pub with_key : List ℕ → ℕ → Option (List ℕ × List ℕ) → Result (List ℕ × List ℕ × Spot) TextFault
with_key key n None = Err (at_line Key n)
with_key key n (Some p) =
    cond (bytes_eq p.0 key) (Ok (key, p.1, value_spot n (length key))) (Err (at_line Key n))

-- line n, the first of the text t, which is to have the key
abbrev pub due : List ℕ → ℕ → List ℕ → Result (List ℕ × List ℕ × Spot) TextFault
due key n t = with_key key n (key_and_value t)

-- the most bytes that a text can have
abbrev pub longest : ℕ
longest = 32768

-- a longer text is declined as a whole, before anything else
abbrev pub unless_long : {X : Type 0} → List ℕ → Result X TextFault → Result X TextFault
unless_long text r = cond (nat_le (length text) longest) r (Err (at_line Long 1))

-- the bytes that a call has read: the key, the equals sign, the value and the line end, or nothing
abbrev pub span : Result Line TextFault → ℕ
span (Ok l) = length l.key.now + length l.value.now + 2
span (Err f) = 0

abbrev pub lines : Result Line TextFault → ℕ
lines (Ok l) = 1
lines (Err f) = 0
