use Rattle.std.proofs.Common.{ap, nat_le, ◌∙◌}
use Rattle.std.proofs.lemmas.Bool.Decides.{Decides-at}
use Rattle.quorum.specs.Members.{no_greater, within_decides}
use Rattle.quorum.proofs.sets.fits.Goals as goal

pub returns-clause-value : goal.returns-clause-value
returns-clause-value c = ap (nat_le c.args.set) c.all_below.ensures.value ∙ no_greater 32 c.args.n c.args.set c.ranges.set.fits

pub returns-clause-boxes : goal.returns-clause-boxes
returns-clause-boxes c =
    Decides-at _ _ (ap (nat_le c.args.set) c.all_below.ensures.value ∙ no_greater 32 c.args.n c.args.set c.ranges.set.fits) (within_decides 32 c.args.n c.args.set c.ranges.set.fits)
