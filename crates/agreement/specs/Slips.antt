-- Slips, and tables of them, one for each box. Assumes nothing.
use Rattle.std.specs.Prelude.{◌≡◌, ℕ, List, [], ◌∷◌, map, Some, None, Option}
use Rattle.std.specs.Option.{option_map, option_or}
use Rattle.setup.specs.Rows.{entry}
use Rattle.agreement.specs.declared.slips.Slip.{Slip}

-- the slip of a box that proposes v
abbrev pub opening : {V : Type 0} → V → Slip V
opening v = record { own = v; pick = None; say = None; cast = None; news = None; held = None; dated = None }

-- the slip with this cast and this news: held becomes news where news is there, and every other field keeps
abbrev pub turned : {V : Type 0} → Option V → Option V → Slip V → Slip V
turned cast news s = record { own = s.own; pick = s.pick; say = s.say; cast = cast; news = news; held = option_or news s.held; dated = s.dated }

-- the slip without cast and news, every other field keeping
abbrev pub quiet : {V : Type 0} → Slip V → Slip V
quiet s = turned None None s

-- the table at the opening
abbrev pub opened : {V : Type 0} → List V → List (Slip V)
opened proposals = map opening proposals

-- what a slip has, field by field: a setup or none
abbrev pub setups_of_slip : {V : Type 0} → Slip V → List (Option V)
setups_of_slip s = Some s.own ∷ s.pick ∷ s.say ∷ s.cast ∷ s.news ∷ s.held ∷ option_map (λ d. d.1) s.dated ∷ []

-- v stands somewhere in the row
abbrev pub Stands : {V : Type 0} → V → List (Option V) → Type 0
Stands v row = (i : ℕ) × (entry row i ≡ Some v)

-- the slip of box i: none past the table's end
abbrev pub slip_at : {V : Type 0} → List (Slip V) → ℕ → Option (Slip V)
slip_at table i = entry (map Some table) i

-- one field of every box
abbrev pub casts : {V : Type 0} → List (Slip V) → List (Option V)
casts table = map (λ s. s.cast) table

abbrev pub news : {V : Type 0} → List (Slip V) → List (Option V)
news table = map (λ s. s.news) table

abbrev pub held : {V : Type 0} → List (Slip V) → List (Option V)
held table = map (λ s. s.held) table
