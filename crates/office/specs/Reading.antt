-- What a call that reads lines has read, and leaves of the reader. Assumes nothing.
use Rattle.std.specs.Prelude.{◌≡◌, ℕ, ◌+◌, ◌≤◌, length, OnOk, Result}
use Rattle.shift.specs.declared.reader.Reader.{Reader}
use Rattle.shift.specs.Lines.{left, longest}
use Rattle.shift.specs.Lists.{listed}
use Rattle.office.specs.declared.head.Head.{Head}
use Rattle.office.specs.Heads.{Begun, past}
use Rattle.office.specs.Named.{meant}

-- the reader has its text still, and after an `Ok` it has gone over n lines of a text that is not too long
abbrev pub HasRead : {X E : Type 0} → ℕ → Reader → Result X E → Reader → Type 0
HasRead n old r new = (new.text ≡ old.text) × OnOk r (left new ≡ past n (left old)) × OnOk r (new.line ≡ old.line + n) × OnOk r (length old.text.now ≤ longest)

-- what was read as a head, and where the reader stands after it
abbrev pub begun : Reader → Head → Begun
begun r h = record { procedure = meant h.procedure; proposals = listed h.setups; line = r.line; rest = left r }
