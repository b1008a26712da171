use Rattle.std.proofs.Common.{◌≡◌, ◌+◌, ◌-◌, ◌≤◌, length}
use Rattle.shift.specs.Lines.{left, longest}
use Rattle.shift.specs.Lists.{listed}
use Rattle.office.specs.Heads.{past}
use Rattle.office.proofs.Setups.{after_these, read}
use Rattle.office.proofs.head.reading.read_setups.Given as goal

-- the setups so far, and those of what is left, are all; where a line was read, the text is not too long
abbrev pub invariant-loop-i : goal.invariant-loop-i
invariant-loop-i l =
    (length (listed l.setups) ≡ l._i) × (l.reader.text ≡ l.initial.reader.text)
    × (after_these (listed l.setups) (read l.reader.text.now (l._i-end - l._i) l.reader.line (left l.reader)) ≡ read l.initial.reader.text.now l._i-end l.initial.reader.line (left l.initial.reader))
    × (past (l._i-end - l._i) (left l.reader) ≡ past l._i-end (left l.initial.reader)) × (l.reader.line ≡ l.initial.reader.line + l._i) × (1 ≤ l._i → length l.initial.reader.text.now ≤ longest)
