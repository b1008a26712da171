use Rattle.std.proofs.Common.{◌≡◌, map}
use Rattle.setup.specs.Rows.{among, first}
use Rattle.setup.proofs.search.first.Given as goal

-- the first among the boxes that are left is the first of all
abbrev pub invariant-loop-i : goal.invariant-loop-i
invariant-loop-i g l =
    let row = map (g.F.Field.reads l.field) l.row in
    first g.V.Setup.before (among row l.boxes.left) ≡ first g.V.Setup.before (among row l.set)
