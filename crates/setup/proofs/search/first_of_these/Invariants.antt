use Rattle.std.proofs.Common.{◌≡◌, map, Some}
use Rattle.setup.specs.Rows.{among, first, sooner}
use Rattle.setup.proofs.search.first_of_these.Given as goal

-- the best so far, and the first among the boxes that are left, give the first of all
abbrev pub invariant-loop-i : goal.invariant-loop-i
invariant-loop-i g l =
    let row = map (g.F.Field.reads l.field) l.row in
    sooner g.V.Setup.before (Some l.best) (first g.V.Setup.before (among row l.i-iterator.left))
    ≡ sooner g.V.Setup.before (Some l.initial.best) (first g.V.Setup.before (among row l.initial.i-iterator.left))
