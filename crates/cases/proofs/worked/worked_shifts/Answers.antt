use Rattle.std.proofs.Common.{refl}
use lib.Count.{ones}
use Rattle.cases.proofs.worked.worked_shifts.Goals as goal

pub returns-clause-agree : goal.returns-clause-agree
unfolding ones
returns-clause-agree c = refl
