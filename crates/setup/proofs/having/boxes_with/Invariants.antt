use Rattle.std.proofs.Common.{map}
use Rattle.setup.proofs.Walked.{Gathered}
use Rattle.setup.proofs.having.boxes_with.Given as goal

-- what is found so far, and the boxes that are left
abbrev pub invariant-loop-i : goal.invariant-loop-i
invariant-loop-i g l = Gathered g.V.Setup.before l.v (map (g.F.Field.reads l.field) l.row) l.set l.i-iterator.left l.found
