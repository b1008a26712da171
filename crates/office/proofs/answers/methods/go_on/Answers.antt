use Rattle.std.proofs.Common.{◌≡◌, true, refl, subst, sym, ap, ◌∙◌}
use Rattle.shift.specs.Lines.{left}
use Rattle.shift.specs.Lists.{listed}
use Rattle.office.specs.Answers.{outcome}
use Rattle.office.specs.Coming.{ahead}
use Rattle.office.specs.Named.{meant}
use Rattle.office.specs.Stages.{within_limit}
use Rattle.office.specs.Working.{moment, shown_by}
use Rattle.office.proofs.Lines.{fault_next, heard_leaves}
use Rattle.office.proofs.answers.methods.go_on.Goals as goal

pub returns-in-Ok-clause-comes : goal.returns-in-Ok-clause-comes
returns-in-Ok-clause-comes c =
    let r = c.args.reader.now in
    let w = c.in-Working.work in
    let read = c.read.new.self in
    let p = meant w.run.procedure in
    let heard = listed read.heard in
    let short = subst (λ s. within_limit s r.text.now ≡ true) c.in-Working.is c.requires in
    let same = ap (λ x. outcome (meant x) (moment read) heard) c.in-Ok.ensures.runs ∙ ap (λ m. outcome p m heard) c.in-Ok.ensures.stands in
    sym (ap (λ s. ahead s r) c.in-Working.is
    ∙ heard_leaves p (moment w) r.line (left r) r.text.now short c.if-not-at_end.ensures heard (shown_by c.beat.new.self) _ _ _ _ c.in-Ok.ensures.value
    (c.beat.ensures.shows ∙ ap (λ o. o.0) same) (ap meant (c.beat.ensures.runs ∙ c.in-Ok.ensures.runs))
    (c.beat.ensures.moves ∙ ap (λ o. o.1) same) c.in-Ok.ensures.read.2 c.in-Ok.ensures.read.1)

pub returns-in-Err-clause-comes : goal.returns-in-Err-clause-comes
returns-in-Err-clause-comes c =
    let r = c.args.reader.now in
    let w = c.in-Working.work in
    let short = subst (λ s. within_limit s r.text.now ≡ true) c.in-Working.is c.requires in
    sym (ap (λ s. ahead s r) c.in-Working.is ∙ fault_next (meant w.run.procedure) (moment w) r.line (left r) r.text.now short c.if-not-at_end.ensures c.in-Err.fault c.in-Err.ensures.value)

pub returns-in-Ok-clause-short : goal.returns-in-Ok-clause-short
returns-in-Ok-clause-short c =
    let short = subst (λ s. within_limit s c.args.reader.now.text.now ≡ true) c.in-Working.is c.requires in
    rw c.in-Ok.ensures.read.0 short

pub returns-in-Err-clause-short : goal.returns-in-Err-clause-short
returns-in-Err-clause-short c = refl
