use Rattle.std.proofs.Common.{map, sym, ◌∙◌}
use Rattle.std.proofs.lemmas.Bool.Decides.{Decides-at}
use Rattle.setup.proofs.Walked.{all_ends, all_fails, all_next}
use Rattle.setup.proofs.Words.{all_those}
use Rattle.setup.proofs.having.all_have.Goals as goal

pub loop-i-preserved : goal.loop-i-preserved
loop-i-preserved g c = c.loop-i.invariant ∙ all_next g.V.Setup.before c.args.v (map (g.F.Field.reads c.args.field.now) c.args.row.now) _ _ c.in-Some.i _ c.in-Some.ensures.steps c.read_at.ensures c.if-not-is.ensures

pub returns-then-not-is-clause-value : goal.returns-then-not-is-clause-value
returns-then-not-is-clause-value g c =
    sym (c.loop-i.invariant ∙ all_fails g.V.Setup.before c.args.v (map (g.F.Field.reads c.args.field.now) c.args.row.now) _ _ c.in-Some.i _ c.in-Some.ensures.steps c.read_at.ensures c.if-not-is.ensures)

pub returns-then-not-is-clause-boxes : goal.returns-then-not-is-clause-boxes
returns-then-not-is-clause-boxes g c =
    Decides-at _ _ (returns-then-not-is-clause-value g c) (all_those g.V.Setup.before c.args.v (map (g.F.Field.reads c.args.field.now) c.args.row.now) c.args.set c.ranges.set.fits)

pub returns-clause-value : goal.returns-clause-value
returns-clause-value g c = sym (c.loop-i.invariant ∙ all_ends g.V.Setup.before c.args.v (map (g.F.Field.reads c.args.field.now) c.args.row.now) _ c.in-None.ensures.steps.0)

pub returns-clause-boxes : goal.returns-clause-boxes
returns-clause-boxes g c =
    Decides-at _ _ (returns-clause-value g c) (all_those g.V.Setup.before c.args.v (map (g.F.Field.reads c.args.field.now) c.args.row.now) c.args.set c.ranges.set.fits)
