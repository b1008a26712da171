use Rattle.std.proofs.Common.{◌≡◌, ℕ, Bool, map, ◌==◌, sym, ap, subst, ◌∙◌}
use Rattle.std.specs.Bool.{then_some}
use Rattle.quorum.specs.Walking.{Lowest, without}
use Rattle.setup.specs.Rows.{among, boxes_with}
use Rattle.procedures.specs.Received.{unanimous}
use Rattle.procedures.proofs.Finding.{others_asked, unanimous_law}
use Rattle.procedures.proofs.received.unanimous.Given.{Over}
use Rattle.procedures.proofs.received.unanimous.Goals.{After-then_some}
use Rattle.procedures.proofs.received.unanimous.Goals as goal

value : (g : Over) (c : After-then_some g) → c.then_some.result ≡ unanimous g.V.Setup.before c.args.heard (among (map (g.F.Field.reads c.args.field.now) c.args.row.now) c.args.heard)
value g c =
    let row = map (g.F.Field.reads c.args.field.now) c.args.row.now in
    let v = c.in_ok-v.v in
    let i = c.in_ok-next.field-0 in
    let lowest = subst (λ (s : ℕ). Lowest s i × (c.next.new.self.left ≡ without s i)) c.each-boxes.ensures c.in_ok-next.ensures.steps in
    c.then_some.ensures
    ∙ ap (λ (b : Bool). then_some b v) (c.all_have.ensures.value ∙ ap (λ (t : ℕ). boxes_with g.V.Setup.before v (among row t) == t) c.left.ensures)
    ∙ others_asked g.met.V.Setup.ordered row c.args.heard _ i v lowest (sym c.in_ok-v.was ∙ c.read_at.ensures)

pub returns-clause-value : goal.returns-clause-value
returns-clause-value g c = value g c

pub returns-clause-law : goal.returns-clause-law
returns-clause-law g c = unanimous_law g.met.V.Setup.ordered (map (g.F.Field.reads c.args.field.now) c.args.row.now) c.args.heard c.then_some.result (value g c)
