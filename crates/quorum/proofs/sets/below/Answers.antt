use Rattle.std.proofs.Common.{◌-◌, sym, ap, subst, arith}
use Rattle.std.proofs.lemmas.Nat.{one_shl}
use Rattle.quorum.specs.Sets.{everyone, AllBelow}
use Rattle.quorum.specs.Members.{everyone_below}
use Rattle.quorum.proofs.sets.below.Goals as goal

pub returns-then-n-eq-MAX_BOXES-clause-boxes : goal.returns-then-n-eq-MAX_BOXES-clause-boxes
returns-then-n-eq-MAX_BOXES-clause-boxes c = subst (AllBelow c.args.n) (ap everyone c.if-n-eq-MAX_BOXES.true) (everyone_below c.args.n)

pub returns-else-n-eq-MAX_BOXES-clause-boxes : goal.returns-else-n-eq-MAX_BOXES-clause-boxes
returns-else-n-eq-MAX_BOXES-clause-boxes c = subst (AllBelow c.args.n) (sym (ap (λ p. p - 1) (one_shl c.args.n 32 (omega arith)))) (everyone_below c.args.n)
