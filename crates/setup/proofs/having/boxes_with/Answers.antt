use Rattle.std.proofs.Common.{ℕ, map, ap, ◌∙◌}
use Rattle.quorum.specs.Sets.{has}
use Rattle.setup.proofs.Walked.{gathers_all, gathers_one, gathers_other}
use Rattle.setup.proofs.Words.{has_those}
use Rattle.setup.proofs.having.boxes_with.Goals as goal

pub loop-i-preserved-then-is : goal.loop-i-preserved-then-is
loop-i-preserved-then-is g c =
    gathers_one g.V.Setup.before c.args.v (map (g.F.Field.reads c.args.field.now) c.args.row.now) c.args.set _ _ c.in-Some.i c.loop-i.found _ _ c.in-Some.ensures.steps c.read_at.ensures c.if-is.ensures c.added-found.ensures c.loop-i.invariant

pub loop-i-preserved : goal.loop-i-preserved
loop-i-preserved g c =
    gathers_other g.V.Setup.before c.args.v (map (g.F.Field.reads c.args.field.now) c.args.row.now) c.args.set _ _ c.in-Some.i c.loop-i.found _ c.in-Some.ensures.steps c.read_at.ensures c.if-is.ensures c.loop-i.invariant

pub returns-clause-value : goal.returns-clause-value
returns-clause-value g c = gathers_all g.V.Setup.before c.args.v (map (g.F.Field.reads c.args.field.now) c.args.row.now) c.args.set _ _ c.in-None.ensures.steps.0 c.loop-i.invariant

pub returns-clause-boxes : goal.returns-clause-boxes
returns-clause-boxes g c =
    let row = map (g.F.Field.reads c.args.field.now) c.args.row.now in
    λ i. ap (λ (s : ℕ). has s i) (returns-clause-value g c) ∙ has_those g.V.Setup.before c.args.v row c.args.set i
