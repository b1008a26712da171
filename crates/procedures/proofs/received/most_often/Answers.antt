use Rattle.std.proofs.Common.{rules, ◌≡◌, None, map, ap, refl, ◌∙◌, subst}
use Rattle.std.proofs.iter.runs.Made.{chains}
use Rattle.std.specs.Option.{option_map}
use Rattle.setup.specs.Rows.{among}
use Rattle.procedures.specs.Received.{most_often}
use Rattle.procedures.proofs.Counting.{Counted, all_counted, nothing_counted, turn_counts, turn_keeps}
use Rattle.procedures.proofs.Finding.{most_often_law}
use Rattle.procedures.proofs.received.most_often.Given.{Over}
use Rattle.procedures.proofs.received.most_often.Goals as goal

pub loop-i-init : goal.loop-i-init
loop-i-init g c =
    let order = g.met.V.Setup.ordered in
    let row = map (g.F.Field.reads c.args.field.now) c.args.row.now in
    let all : c.args.heard ≡ c.into_iter-i-iterator.result.left = search rules in
    subst (λ n. Counted order row c.args.heard n 0 None) all (nothing_counted order row c.args.heard)

pub loop-i-preserved-in-Some-untried : goal.loop-i-preserved-in-Some-untried
loop-i-preserved-in-Some-untried g c =
    turn_counts g.met.V.Setup.ordered (map (g.F.Field.reads c.args.field.now) c.args.row.now) c.args.heard _ _ c.in-Some.i c.loop-i.counted c.in-Some.ensures.steps _ c.untried.ensures c.loop-i.most c.in-Some-untried.v _ _ _ _ c.ranges.heard.fits c.loop-i.auto.counted-fits.fits c.in-Some-untried.is
    c.boxes_with-senders.ensures.value c.size.ensures.value c.sooner-most.ensures refl c.loop-i.invariant

pub loop-i-preserved : goal.loop-i-preserved
loop-i-preserved g c =
    turn_keeps g.met.V.Setup.ordered (map (g.F.Field.reads c.args.field.now) c.args.row.now) c.args.heard _ _ c.in-Some.i c.loop-i.counted c.in-Some.ensures.steps _ c.untried.ensures c.loop-i.most c.in_default.is c.loop-i.invariant

value : (g : Over) (c : goal.After-map g) → c.map.result ≡ most_often g.V.Setup.before (among (map (g.F.Field.reads c.args.field.now) c.args.row.now) c.args.heard)
value g c =
    let named : c.map.result ≡ option_map (λ d. d.1) c.loop-i.most = search (rules, chains) in
    named ∙ ap (option_map (λ d. d.1)) (all_counted g.met.V.Setup.ordered _ c.args.heard _ c.loop-i.counted c.loop-i.most c.in-None.ensures.steps.0 c.loop-i.invariant)

pub returns-clause-value : goal.returns-clause-value
returns-clause-value g c = value g c

pub returns-clause-law : goal.returns-clause-law
returns-clause-law g c = most_often_law g.met.V.Setup.ordered _ _ (value g c)
