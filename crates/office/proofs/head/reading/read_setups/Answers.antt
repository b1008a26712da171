use Rattle.std.proofs.Common.{rules, ◌≡◌, Err, ap, ◌∙◌}
use Rattle.shift.specs.Lines.{left}
use Rattle.shift.specs.Lists.{listed}
use Rattle.shift.specs.Told.{told}
use Rattle.office.proofs.Setups.{read, stops}
use Rattle.office.proofs.head.reading.read_setups.Goals as goal

pub returns-in_err-setup-clause-value : goal.returns-in_err-setup-clause-value
returns-in_err-setup-clause-value c =
    let l = c.loop-i in
    let reader = c.args.reader.now in
    let declined : told listed c.from_residual.result ≡ Err c.in_err-setup.field-0.0 = search rules in
    declined ∙ stops c.boxes-i-end.result l._i l.reader.line l.reader.text.now (left l.reader) (listed l.setups) _ c.loop-i-test.true l.invariant.2 c.in_err-setup.field-0.0 c.in_err-setup.ensures.value
    ∙ ap (λ n. read reader.text.now n reader.line (left reader)) c.boxes-i-end.ensures
