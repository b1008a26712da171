-- The lines that say what is shown. Assumes nothing.
use Rattle.std.specs.Prelude.{ℕ, List, [], ◌∷◌, ◌++◌, Some, None, codes, decimal, Option}
use Rattle.std.specs.List.{flat_map}
use Rattle.quorum.specs.Refusals.{number}
use Rattle.shift.specs.Faults.{report}
use Rattle.office.specs.Shown.{Shown}
use Rattle.office.specs.Shown.Shown.{declined, fault, phase}

-- a setup in decimal digits, a dash for none
abbrev pub cell_text : Option ℕ → List ℕ
cell_text None = codes "-"
cell_text (Some v) = decimal v

-- the entries with commas between
abbrev pub row_text : List (Option ℕ) → List ℕ
row_text [] = []
row_text (x ∷ xs) = cell_text x ++ flat_map (λ y. codes "," ++ cell_text y) xs

-- the lines of one thing that is shown, without the last line end
abbrev pub lines_of : Shown → List ℕ
lines_of (declined r) = codes "declined=" ++ decimal (number r)
lines_of (phase k votes held) = codes "phase=" ++ (decimal k ++ (codes "\nvotes=" ++ (row_text votes ++ (codes "\nheld=" ++ row_text held))))
lines_of (fault f) = report f

-- one after another, each with its line end
abbrev pub printed : List Shown → List ℕ
printed es = flat_map (λ e. lines_of e ++ 10 ∷ []) es
