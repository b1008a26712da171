use Rattle.std.proofs.Common.{map, Some, None, refl, sym, ap, ◌∙◌}
use Rattle.quorum.specs.declared.members.Members.{Members}
use Rattle.setup.specs.Rows.{among, first, sooner}
use Rattle.setup.proofs.Searching.{earlier_moves, later_moves}
use Rattle.setup.proofs.Walked.{search_ends, turn_takes}
use Rattle.setup.proofs.search.first_of_these.Goals as goal

pub loop-i-preserved-then-comes_before : goal.loop-i-preserved-then-comes_before
loop-i-preserved-then-comes_before g c =
    let row = map (g.F.Field.reads c.args.field.now) c.args.row.now in
    let best = c.loop-i.best in
    let w = c.in-Some-read_at.w in
    turn_takes g.V.Setup.before row _ _ c.in-Some.i (Some best) (Some w) (Some w) _ c.in-Some.ensures.steps (sym c.in-Some-read_at.is ∙ c.read_at.ensures)
    (earlier_moves g.met.V.Setup.ordered best w (sym c.if-comes_before.ensures)) c.loop-i.invariant

pub loop-i-preserved-else-comes_before : goal.loop-i-preserved-else-comes_before
loop-i-preserved-else-comes_before g c =
    let row = map (g.F.Field.reads c.args.field.now) c.args.row.now in
    let best = c.loop-i.best in
    let w = c.in-Some-read_at.w in
    turn_takes g.V.Setup.before row _ _ c.in-Some.i (Some best) (Some w) (Some best) _ c.in-Some.ensures.steps (sym c.in-Some-read_at.is ∙ c.read_at.ensures)
    (later_moves g.met.V.Setup.ordered best w (sym c.if-comes_before.ensures)) c.loop-i.invariant

pub loop-i-preserved : goal.loop-i-preserved
loop-i-preserved g c =
    let row = map (g.F.Field.reads c.args.field.now) c.args.row.now in
    turn_takes g.V.Setup.before row _ _ c.in-Some.i (Some c.loop-i.best) None (Some c.loop-i.best) _ c.in-Some.ensures.steps (sym c.in_default.is ∙ c.read_at.ensures) (λ rest. refl) c.loop-i.invariant

pub returns : goal.returns
returns g c =
    let row = map (g.F.Field.reads c.args.field.now) c.args.row.now in
    search_ends g.V.Setup.before row _ (Some c.loop-i.best) _ c.in-None.ensures.steps.0
    (c.loop-i.invariant ∙ ap (λ (m : Members). sooner g.V.Setup.before (Some c.args.v) (first g.V.Setup.before (among row m.left))) c.into_iter-i-iterator.ensures.into_iter_gives)
