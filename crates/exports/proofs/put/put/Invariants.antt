use Rattle.std.proofs.Common.{◌≡◌, map}
use Rattle.agreement.specs.Inside.{overwritten}
use Rattle.exports.proofs.put.put.Given as goal

abbrev pub invariant-loop-i : goal.invariant-loop-i
invariant-loop-i g l = l.room ≡ overwritten (map (g.A.Recast.form) l.items) l.initial.room l.i
