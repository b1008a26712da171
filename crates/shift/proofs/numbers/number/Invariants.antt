use Rattle.std.proofs.Common.{◌≡◌, ◌^◌, ◌<◌, true, drop}
use Rattle.shift.specs.Numbers.{led}
use Rattle.shift.proofs.Decimal.{read}
use Rattle.shift.proofs.numbers.number.Given as goal

-- what is left, read on from here, gives the answer
abbrev pub invariant-loop-b : goal.invariant-loop-b
invariant-loop-b l = (led l.value ≡ true) × (l.n < 2 ^ 32) × (read l.n (drop l.b-index l.value) ≡ read 0 l.value)
