use Rattle.std.proofs.Common.{◌≡◌}
use Rattle.agreement.specs.Protocols.{beaten}
use Rattle.agreement.specs.Inside.{overwritten}
use Rattle.agreement.proofs.hearing.Given.rewrite.Given as goal

abbrev pub invariant-loop-i : goal.invariant-loop-i
invariant-loop-i g l = l.table ≡ overwritten (beaten (g.P.Procedure.meaning l.self.procedure.now) l.self.phase l.self.beat l.self.heard.now l.slips) l.initial.table l.i
