use Rattle.std.proofs.Common.{length, refl, arith}
use Rattle.quorum.proofs.Refused.{declined_does, passed_on}
use Rattle.book.specs.Entering.{NamesFirst, Votes}
use Rattle.book.specs.Keeping.{pages}
use Rattle.book.proofs.Places.{row_counted, row_fits}
use Rattle.book.proofs.books.Book.enter.Goals as goal

pub returns-in_err-check-clause-value : goal.returns-in_err-check-clause-value
returns-in_err-check-clause-value g c = declined_does _ _ _ _ c.from_residual.result c.in_err-check.field-0.0 c.from_residual.ensures.1 c.in_err-check.ensures.value refl

pub returns-in_err-check-clause-voting : goal.returns-in_err-check-clause-voting
returns-in_err-check-clause-voting g c =
    let b = pages c.args.self.now in
    passed_on (Votes (g.R.Rule.family c.args.rule.now) b c.args.votes.now c.args.decisions.now) c.from_residual.result c.in_err-check.field-0.0 c.from_residual.ensures.1 c.in_err-check.ensures.voting

pub returns-in_err-check-clause-first : goal.returns-in_err-check-clause-first
returns-in_err-check-clause-first g c =
    let b = pages c.args.self.now in
    passed_on (NamesFirst (g.R.Rule.family c.args.rule.now) g.V.Setup.before b c.args.votes.now c.args.decisions.now) c.from_residual.result c.in_err-check.field-0.0 c.from_residual.ensures.1 c.in_err-check.ensures.first

pub put-requires : goal.put-requires
put-requires g c =
    let ready = c.in_ok-check.ensures.fitting in
    (ready.voting, row_fits c.args.self.now.written c.args.self.now.boxes _ ready.room)

pub invariant_of-self-clause-kept : goal.invariant_of-self-clause-kept
invariant_of-self-clause-kept g c =
    let b = c.args.self.now in
    omega (arith, row_counted b.written b.boxes (length b.list.now) c.in_ok-check.ensures.fitting.room, c.put.auto.list)
