use Rattle.std.proofs.Common.{rules, ◌≡◌, map, refl, subst}
use Rattle.setup.proofs.Walked.{gathers_all, gathers_none, gathers_one, gathers_other}
use Rattle.procedures.proofs.Polling.{Lacks, found_none, found_there, none_tried, turn_skips, turn_tries}
use Rattle.procedures.proofs.Trying.{Seen, not_tried}
use Rattle.procedures.proofs.received.backer.Goals as goal

pub loop-i-init : goal.loop-i-init
loop-i-init g c =
    let f = g.R.Rule.family c.args.rule.now in
    let row = map (g.F.Field.reads c.args.field.now) c.args.row.now in
    let all : c.args.heard ≡ c.into_iter-i-iterator.result.left = search rules in
    subst (λ n. Seen row c.args.heard (Lacks f g.V.Setup.before c.args.others row c.args.heard) n 0) all (none_tried f g.V.Setup.before c.args.others row c.args.heard)

pub loop-j-init : goal.loop-j-init
loop-j-init g c = search (rules, gathers_none)

pub loop-j-preserved-then-is : goal.loop-j-preserved-then-is
loop-j-preserved-then-is g c =
    gathers_one g.V.Setup.before c.in-Some-untried.v (map (g.F.Field.reads c.args.field.now) c.args.row.now) (not_tried c.args.heard c.loop-i.tried) _ _ c.in-Some-j.j c.loop-j.senders _ _ c.in-Some-j.ensures.steps c.read_at.ensures c.if-is.ensures c.added-senders.ensures c.loop-j.invariant

pub loop-j-preserved : goal.loop-j-preserved
loop-j-preserved g c =
    gathers_other g.V.Setup.before c.in-Some-untried.v (map (g.F.Field.reads c.args.field.now) c.args.row.now) (not_tried c.args.heard c.loop-i.tried) _ _ c.in-Some-j.j c.loop-j.senders _ c.in-Some-j.ensures.steps c.read_at.ensures c.if-is.ensures c.loop-j.invariant

pub loop-i-preserved-in-Some-untried : goal.loop-i-preserved-in-Some-untried
loop-i-preserved-in-Some-untried g c =
    let row = map (g.F.Field.reads c.args.field.now) c.args.row.now in
    let found = gathers_all g.V.Setup.before c.in-Some-untried.v row (not_tried c.args.heard c.loop-i.tried) _ _ c.in-None-j.ensures.steps.0 c.loop-j.invariant in
    turn_tries (g.R.Rule.family c.args.rule.now) g.V.Setup.before c.args.others row c.args.heard _ _ c.in-Some.i c.loop-i.tried c.in-Some.ensures.steps _ c.untried.ensures g.met.V.Setup.ordered c.in-Some-untried.v c.loop-j.senders c.ranges.heard.fits c.loop-i.auto.tried-fits.fits c.in-Some-untried.is found c.loop-i.invariant _ c.if-is_quorum.ensures refl

pub loop-i-preserved : goal.loop-i-preserved
loop-i-preserved g c =
    turn_skips (g.R.Rule.family c.args.rule.now) g.V.Setup.before c.args.others (map (g.F.Field.reads c.args.field.now) c.args.row.now) c.args.heard _ _ c.in-Some.i c.loop-i.tried c.in-Some.ensures.steps _ c.untried.ensures c.in_default.is c.loop-i.invariant

pub returns-then-is_quorum : goal.returns-then-is_quorum
returns-then-is_quorum g c =
    let row = map (g.F.Field.reads c.args.field.now) c.args.row.now in
    let found = gathers_all g.V.Setup.before c.in-Some-untried.v row (not_tried c.args.heard c.loop-i.tried) _ _ c.in-None-j.ensures.steps.0 c.loop-j.invariant in
    found_there (g.R.Rule.family c.args.rule.now) g.V.Setup.before c.args.others row c.args.heard _ _ c.in-Some.i c.loop-i.tried c.in-Some.ensures.steps _ c.untried.ensures g.met.V.Setup.ordered c.in-Some-untried.v c.loop-j.senders c.ranges.heard.fits c.loop-i.auto.tried-fits.fits c.in-Some-untried.is found c.loop-i.invariant c.if-is_quorum.ensures

pub returns-in-None : goal.returns-in-None
returns-in-None g c =
    found_none (g.R.Rule.family c.args.rule.now) g.V.Setup.before c.args.others (map (g.F.Field.reads c.args.field.now) c.args.row.now) c.args.heard _ c.loop-i.tried c.in-None.ensures.steps.0 c.loop-i.invariant
