use Rattle.std.proofs.Common.{rules, ◌≡◌}
use Rattle.exports.specs.InTurn.{parts}
use Rattle.exports.proofs.Steps.{in_all}
use Rattle.exports.proofs.runs.work.Goals as goal

pub returns : goal.returns
returns g c =
    let shift = c.args.shift in
    let all : c.loop-k.k ≡ parts shift.each shift.heard.now = search rules in
    (c.loop-k.run.clock, in_all _ _ _ _ _ all c.loop-k.invariant.1)
