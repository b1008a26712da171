use Rattle.std.proofs.Common.{map, take}
use Rattle.std.specs.Fmt.{HasWritten, IsPlainFormatter}
use Rattle.office.specs.Events.{part_of}
use Rattle.office.proofs.Written.{after_commas}
use Rattle.office.proofs.rows.RowDisplay.fmt.Given as goal

-- the loop has written the entries that it has gone over, a comma before each
abbrev pub invariant-loop-slip : goal.invariant-loop-slip
invariant-loop-slip g l = IsPlainFormatter l.initial.f → HasWritten g.W.Write.write_str_gives l.initial.f (after_commas (map (part_of l.self.column) (take l.slip-index l.more))) l.f
