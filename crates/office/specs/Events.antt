-- What an event of the code shows. Assumes nothing.
use Rattle.std.specs.Prelude.{ℕ, List, map, Option}
use Rattle.agreement.specs.declared.slips.Slip.{Slip}
use Rattle.agreement.specs.Slips.{casts, held}
use Rattle.office.specs.declared.events.Event.{Event}
use Rattle.office.specs.declared.events.Event.TheVariants.{Declined, Phase, Fault}
use Rattle.office.specs.declared.rows.Column.{Column}
use Rattle.office.specs.declared.rows.Column.TheVariants.{Cast, Held}
use Rattle.office.specs.declared.rows.Row.{Row}
use Rattle.office.specs.declared.signs.Sign.{Sign}
use Rattle.office.specs.declared.signs.Sign.TheVariants as sign
use Rattle.office.specs.Shown.{Shown}
use Rattle.office.specs.Shown.Shown.{declined, fault, phase}

-- what is shown of a slip
abbrev pub part_of : Column → Slip ℕ → Option ℕ
part_of Cast s = s.cast
part_of Held s = s.held

-- the entries of a row, box by box
abbrev pub entries : Row → List (Option ℕ)
entries r = map (part_of r.column) r.table.now

abbrev pub shown_as : Event → Shown
shown_as (Declined r) = declined r
shown_as (Phase p) = phase p.number (entries p.votes) (entries p.held)
shown_as (Fault f) = fault f

-- what a sign shows where this is the table
abbrev pub seen : Sign → List (Slip ℕ) → Shown
seen (sign.Declined r) table = declined r
seen (sign.Ended k) table = phase k (casts table) (held table)
