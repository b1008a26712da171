use Rattle.book.specs.Keeping.{pages}
use Rattle.book.proofs.Naming.{names_first}
use Rattle.book.proofs.Voting.{answers_votes}
use Rattle.book.proofs.books.Book.check.Goals as goal

pub returns-clause-voting : goal.returns-clause-voting
returns-clause-voting g c =
    let law = g.met.R.Rule.lawful c.args.rule.now in
    answers_votes g.met.V.Setup.ordered (g.R.Rule.family c.args.rule.now) law (pages c.args.self.now) c.args.votes.now c.args.decisions.now c.admit.result c.admit.ensures.value

pub returns-clause-first : goal.returns-clause-first
returns-clause-first g c =
    names_first (g.R.Rule.family c.args.rule.now) g.V.Setup.before (pages c.args.self.now) c.args.votes.now c.args.decisions.now c.admit.result c.admit.ensures.value
