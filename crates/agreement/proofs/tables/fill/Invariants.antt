use Rattle.std.proofs.Common.{◌≡◌}
use Rattle.agreement.specs.Slips.{opened}
use Rattle.agreement.specs.Inside.{overwritten}
use Rattle.agreement.proofs.tables.fill.Given as goal

abbrev pub invariant-loop-i : goal.invariant-loop-i
invariant-loop-i g l = l.table ≡ overwritten (opened l.proposals) l.initial.table l.i
