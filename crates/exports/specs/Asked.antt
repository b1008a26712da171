-- The rule and the procedure that numbers ask for. Assumes nothing.
use Rattle.std.specs.Prelude.{ℕ, Bool, cond, None, Option, ◌==◌}
use Rattle.quorum.specs.declared.refusals.RuleFault.{RuleFault}
use Rattle.quorum.specs.Families.{anchored, at_least, majority, present, sizes, thirds}
use Rattle.quorum.specs.Making.{no_box, no_roster, no_size}
use Rattle.quorum.specs.Refusals.{either}
use Rattle.quorum.specs.Rules.{Family}
use Rattle.setup.specs.Kinds.{number_before}
use Rattle.agreement.specs.Protocols.{Protocol}
use Rattle.procedures.specs.Fast.{fast}
use Rattle.procedures.specs.Latest.{latest}
use Rattle.procedures.specs.Licence.{licensed}
use Rattle.procedures.specs.Observing.{observing}
use Rattle.exports.specs.declared.numbers.RuleNumbers.{RuleNumbers}

-- how many boxes, as the numbers have it: more than two thirds, or k
abbrev pub least : RuleNumbers → ℕ → ℕ
least r k = cond (r.base == 1) (thirds r.boxes) k

-- why sizes cannot be made
abbrev pub no_sizes : RuleNumbers → Option RuleFault
no_sizes r = either (no_roster r.boxes) (cond (r.base == 1) None (no_size r.boxes r.quorum r.clear))

-- the rule without an anchor
abbrev pub plain : RuleNumbers → Family
plain r = cond (r.base == 0) (majority r.boxes) (sizes r.boxes (least r r.quorum))

abbrev pub no_plain : RuleNumbers → Option RuleFault
no_plain r = cond (r.base == 0) (no_roster r.boxes) (no_sizes r)

-- the rule that is asked for
abbrev pub asked : RuleNumbers → Family
asked r = cond (r.anchored == 0) (plain r) (anchored r.anchor (plain r))

-- why it cannot be made: the rule below is judged before the anchor
abbrev pub no_rule : RuleNumbers → Option RuleFault
no_rule r = either (no_plain r) (cond (r.anchored == 0) None (no_box r.boxes r.anchor))

-- the sets that are clear over it: of sizes without an anchor their own, else the whole roster
abbrev pub clear_asked : RuleNumbers → ℕ → Bool
clear_asked r = cond (r.anchored == 0) (cond (r.base == 0) (present (asked r)) (at_least r.boxes (least r r.clear))) (present (asked r))

-- ---- a run

-- over a rule and its clear sets 0 asks for Fast, 1 for Observing, and every other number for Latest
abbrev pub over : ℕ → Family → (ℕ → Bool) → Protocol ℕ
over k f clear = cond (k == 0) (fast number_before f clear) (cond (k == 1) (observing number_before f) (latest number_before f))

-- but 3 asks for the standard licence of as many boxes
abbrev pub procedure : ℕ → RuleNumbers → Protocol ℕ
procedure k r = cond (k == 3) (licensed number_before r.boxes) (over k (asked r) (clear_asked r))

-- why its rule cannot be made
abbrev pub no_procedure : ℕ → RuleNumbers → Option RuleFault
no_procedure k r = cond (k == 3) (no_roster r.boxes) (no_rule r)
