use Rattle.std.proofs.Common.{◌≡◌, map, Some, None, refl, sym, subst, ◌∙◌}
use Rattle.setup.specs.Rows.{IsFirst, among, first}
use Rattle.setup.proofs.Searching.{first_is_first}
use Rattle.setup.proofs.Walked.{search_ends, turn_takes}
use Rattle.setup.proofs.search.first.Given.{Over}
use Rattle.setup.proofs.search.first.Goals as goal

-- a box that has nothing is passed over
pub loop-i-preserved : goal.loop-i-preserved
loop-i-preserved g c =
    let row = map (g.F.Field.reads c.args.field.now) c.args.row.now in
    turn_takes g.V.Setup.before row _ _ c.in-Some.i None None None _ c.in-Some.ensures.steps (sym c.in_default-read_at.is ∙ c.read_at.ensures) (λ rest. refl) c.loop-i.invariant

found : (g : Over) (c : goal.After-first_of_these g) → Some c.first_of_these.result ≡ first g.V.Setup.before (among (map (g.F.Field.reads c.args.field.now) c.args.row.now) c.args.set)
found g c =
    let row = map (g.F.Field.reads c.args.field.now) c.args.row.now in
    c.first_of_these.ensures
    ∙ turn_takes g.V.Setup.before row _ _ c.in-Some.i None (Some c.in-Some-read_at.v) (Some c.in-Some-read_at.v) _ c.in-Some.ensures.steps (sym c.in-Some-read_at.is ∙ c.read_at.ensures) (λ rest. refl) c.loop-i.invariant

pub returns-in-Some-read_at-clause-value : goal.returns-in-Some-read_at-clause-value
returns-in-Some-read_at-clause-value g c = found g c

pub returns-in-Some-read_at-clause-law : goal.returns-in-Some-read_at-clause-law
returns-in-Some-read_at-clause-law g c =
    let row = map (g.F.Field.reads c.args.field.now) c.args.row.now in
    subst (IsFirst g.V.Setup.before row c.args.set) (sym (found g c)) (first_is_first g.met.V.Setup.ordered row c.args.set)

none : (g : Over) (c : goal.In_default g) → None ≡ first g.V.Setup.before (among (map (g.F.Field.reads c.args.field.now) c.args.row.now) c.args.set)
none g c = search_ends g.V.Setup.before (map (g.F.Field.reads c.args.field.now) c.args.row.now) _ None _ c.in_default.ensures.steps.0 c.loop-i.invariant

pub returns-clause-value : goal.returns-clause-value
returns-clause-value g c = none g c

pub returns-clause-law : goal.returns-clause-law
returns-clause-law g c =
    let row = map (g.F.Field.reads c.args.field.now) c.args.row.now in
    subst (IsFirst g.V.Setup.before row c.args.set) (sym (none g c)) (first_is_first g.met.V.Setup.ordered row c.args.set)
