-- The names of the rules and of the procedures. Assumes nothing.
use Rattle.std.specs.Prelude.{ℕ, cond, List, Some, None, codes, Option}
use Rattle.std.specs.Str.{bytes_eq}
use Rattle.shift.specs.declared.names.RuleName.{RuleName}
use Rattle.shift.specs.declared.names.RuleName.TheVariants.{Majority, Thirds, Anchored}
use Rattle.shift.specs.declared.names.ProcedureName.{ProcedureName}
use Rattle.shift.specs.declared.names.ProcedureName.TheVariants.{Fast, Observing, Latest}

abbrev pub rule : List ℕ → Option RuleName
rule v =
    cond (bytes_eq v (codes "majority")) (Some Majority)
    (cond (bytes_eq v (codes "thirds")) (Some Thirds) (cond (bytes_eq v (codes "anchored")) (Some Anchored) None))

abbrev pub procedure : List ℕ → Option ProcedureName
procedure v =
    cond (bytes_eq v (codes "fast")) (Some Fast)
    (cond (bytes_eq v (codes "observing")) (Some Observing) (cond (bytes_eq v (codes "latest")) (Some Latest) None))
