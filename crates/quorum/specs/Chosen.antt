-- What a chosen rule means, and that it keeps the laws. Assumes nothing.
use Rattle.std.specs.Prelude.{ℕ, Bool}
use Rattle.quorum.specs.declared.chosen.ChosenRule.{ChosenRule}
use Rattle.quorum.specs.declared.chosen.ChosenRule.TheVariants.{Majority, Sizes, AnchoredMajority, AnchoredSizes}
use Rattle.quorum.specs.Families.{anchored, at_least, majority, present, sizes}
use Rattle.quorum.specs.Fitting.{sizes_clear, sizes_lawful}
use Rattle.quorum.specs.Laws.{anchored_lawful, majority_lawful, present_clear}
use Rattle.quorum.specs.Rules.{ClearLawful, Family, Lawful}

-- its quorums
abbrev pub family_of : ChosenRule → Family
family_of (Majority r) = majority r.rule.roster.boxes
family_of (Sizes r) = sizes r.roster.boxes r.quorum
family_of (AnchoredMajority r) = anchored r.rule.anchor (majority r.rule.rule.roster.boxes)
family_of (AnchoredSizes r) = anchored r.rule.anchor (sizes r.rule.rule.roster.boxes r.rule.rule.quorum)

-- its clear sets: of sizes without an anchor their own, else the whole roster alone
abbrev pub clear_of : ChosenRule → ℕ → Bool
clear_of (Majority r) = present (family_of (Majority r))
clear_of (Sizes r) = at_least r.roster.boxes r.clear
clear_of (AnchoredMajority r) = present (family_of (AnchoredMajority r))
clear_of (AnchoredSizes r) = present (family_of (AnchoredSizes r))

pub chosen_lawful : (r : ChosenRule) → Lawful (family_of r)
chosen_lawful (Majority r) = majority_lawful r.rule.roster.boxes r.rule.roster.sized
chosen_lawful (Sizes r) = sizes_lawful r.roster.boxes r.quorum r.clear r.roster.sized r.fitting
chosen_lawful (AnchoredMajority r) = anchored_lawful r.rule.anchor (majority r.rule.rule.roster.boxes) (majority_lawful r.rule.rule.roster.boxes r.rule.rule.roster.sized)
chosen_lawful (AnchoredSizes r) =
    let s = r.rule.rule in
    anchored_lawful r.rule.anchor (sizes s.roster.boxes s.quorum) (sizes_lawful s.roster.boxes s.quorum s.clear s.roster.sized s.fitting)

pub chosen_clear : (r : ChosenRule) → ClearLawful (family_of r) (clear_of r)
chosen_clear (Majority r) = present_clear (family_of (Majority r)) (chosen_lawful (Majority r))
chosen_clear (Sizes r) = sizes_clear r.roster.boxes r.quorum r.clear r.fitting
chosen_clear (AnchoredMajority r) = present_clear (family_of (AnchoredMajority r)) (chosen_lawful (AnchoredMajority r))
chosen_clear (AnchoredSizes r) = present_clear (family_of (AnchoredSizes r)) (chosen_lawful (AnchoredSizes r))
