use Rattle.std.proofs.Common.{sym, ◌∙◌}
use Rattle.std.proofs.lemmas.Bool.{le-ltb}
use Rattle.quorum.specs.Members.{has_past}
use Rattle.quorum.proofs.sets.contains.Goals as goal

pub returns-else-i-lt-MAX_BOXES : goal.returns-else-i-lt-MAX_BOXES
returns-else-i-lt-MAX_BOXES c =
    let past = c.if-i-lt-MAX_BOXES.false in
    le-ltb c.args.i 32 past ∙ sym (has_past 32 c.args.set c.args.i c.ranges.set.fits past)
