-- When the making of a rule is declined, and why. Assumes nothing.
use Rattle.std.specs.Prelude.{ℕ, ◌+◌, ◌*◌, Bool, cond, ◌&&◌, Some, None, Option, nat_le, nat_lt}
use Rattle.quorum.specs.declared.refusals.RuleFault.{RuleFault}
use Rattle.quorum.specs.declared.refusals.RuleFault.TheVariants as fault

-- why a roster of n boxes is declined: n is not 1 to 32
abbrev pub no_roster : ℕ → Option RuleFault
no_roster n = cond (nat_le 1 n && nat_le n 32) None (Some fault.Roster)

-- two quorums of e boxes and a clear set of t share one of n boxes, and t is not below e, nor above n
abbrev pub fit : ℕ → ℕ → ℕ → Bool
fit n e t = nat_lt (2 * n) (2 * e + t) && (nat_le e t && nat_le t n)

-- why sizes e and t of n boxes are declined: they do not fit
abbrev pub no_size : ℕ → ℕ → ℕ → Option RuleFault
no_size n e t = cond (fit n e t) None (Some fault.Size)

-- why box k of a roster of n is declined: there is none
abbrev pub no_box : ℕ → ℕ → Option RuleFault
no_box n k = cond (nat_lt k n) None (Some fault.NoBox)
