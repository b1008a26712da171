use Rattle.std.proofs.Common.{map}
use Rattle.procedures.proofs.Counting.{Counted}
use Rattle.procedures.proofs.received.most_often.Given as goal

-- the best of what was counted so far
abbrev pub invariant-loop-i : goal.invariant-loop-i
invariant-loop-i g l = Counted g.met.V.Setup.ordered (map (g.F.Field.reads l.field) l.row) l.heard l.i-iterator.left l.counted l.most
