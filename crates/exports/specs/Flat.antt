-- Setups, slips and faults as plain numbers. Assumes nothing.
use Rattle.std.specs.Prelude.{ℕ, zero, suc, ◌+◌, ◌*◌, cond, Some, None, Option, nat_lt}
use Rattle.quorum.specs.declared.refusals.Fault.{Fault}
use Rattle.quorum.specs.Refusals.{number}
use Rattle.agreement.specs.declared.slips.Slip.{Slip}
use Rattle.exports.specs.declared.flat.FlatSlip.{FlatSlip}

-- 2^32: of two numbers in one, the higher is counted in these
abbrev pub higher : ℕ
higher = 4294967296

-- a setup or none: 0 is none
abbrev pub flat : Option ℕ → ℕ
flat None = 0
flat (Some v) = v + 1

-- a dated vote or none: the phase stands above
abbrev pub flat_dated : Option (ℕ × ℕ) → ℕ
flat_dated None = 0
flat_dated (Some (k, v)) = k * higher + v + 1

abbrev pub flat_slip : Slip ℕ → FlatSlip
flat_slip s = record {
  own = flat (Some s.own);
  pick = flat s.pick;
  say = flat s.say;
  cast = flat s.cast;
  news = flat s.news;
  held = flat s.held;
  dated = flat_dated s.dated;
}

-- the setup or none that a number stands for; one that is too large is none
abbrev pub setup_of : ℕ → Option ℕ
setup_of zero = None
setup_of (suc v) = cond (nat_lt v higher) (Some v) None

-- the refusal's number stands above the place
abbrev pub flat_fault : Fault → ℕ
flat_fault f = number f.refusal * higher + cond (nat_lt f.place higher) f.place 4294967295
