use Rattle.office.proofs.Agreeing.{agreed}
use Rattle.office.proofs.answers.Answer.new.Goals as goal

pub invariant_of-result : goal.invariant_of-result
invariant_of-result c = record { short = c.seek.ensures.short; shows = c.seek.ensures.shows }

pub returns-clause-agreed : goal.returns-clause-agreed
returns-clause-agreed c = agreed c.args.text.now
