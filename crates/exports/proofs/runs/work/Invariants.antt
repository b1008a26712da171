use Rattle.std.proofs.Common.{◌≡◌}
use Rattle.exports.specs.InTurn.{InTurn}
use Rattle.exports.specs.Runs.{BeatOf}
use Rattle.exports.proofs.runs.work.Given as goal

abbrev pub invariant-loop-k : goal.invariant-loop-k
invariant-loop-k g l =
    let from = l.initial in
    (l.run.procedure ≡ from.run.procedure)
    × InTurn (BeatOf (g.P.Procedure.meaning from.run.procedure) l.shift.each l.shift.heard.now)
    (record { answer = from.last; clock = from.run.clock; table = from.table; sheet = from.sheet }) l.k
    (record { answer = l.last; clock = l.run.clock; table = l.table; sheet = l.sheet })
