use Rattle.std.proofs.Common.{◌≡◌, ◌==◌, map}
use Rattle.setup.specs.Rows.{among, boxes_with}
use Rattle.setup.proofs.having.all_have.Given as goal

-- all have it if all the boxes that are left do
abbrev pub invariant-loop-i : goal.invariant-loop-i
invariant-loop-i g l =
    let row = map (g.F.Field.reads l.field) l.row in
    (boxes_with g.V.Setup.before l.v (among row l.set) == l.set) ≡ (boxes_with g.V.Setup.before l.v (among row l.i-iterator.left) == l.i-iterator.left)
