-- A procedure that was named keeps its laws. Assumes nothing.
use Rattle.std.specs.Prelude.{ℕ, Bool}
use Rattle.quorum.specs.Chosen.{chosen_clear, chosen_lawful, clear_of, family_of}
use Rattle.quorum.specs.Rules.{Family, ClearLawful, Lawful}
use Rattle.setup.specs.Lawful.{unsigned_ordered}
use Rattle.agreement.specs.Laws.{Lawful as ProcedureLawful}
use Rattle.procedures.specs.Laws.Fast.{fast_lawful}
use Rattle.procedures.specs.Laws.Latest.{latest_lawful}
use Rattle.procedures.specs.Laws.Observing.{observing_lawful}
use Rattle.shift.specs.declared.names.ProcedureName.{ProcedureName}
use Rattle.shift.specs.declared.names.ProcedureName.TheVariants as name
use Rattle.office.specs.declared.named_procedure.NamedProcedure.{NamedProcedure}
use Rattle.office.specs.declared.named_procedure.NamedProcedure.TheVariants.{Fast, Observing, Latest}
use Rattle.office.specs.Named.{meant, over}

pub over_lawful : (p : ProcedureName) (f : Family) (clear : ℕ → Bool) → Lawful f → ClearLawful f clear → ProcedureLawful (over p f clear)
over_lawful name.Fast f clear law view = fast_lawful unsigned_ordered f law clear view
over_lawful name.Observing f clear law view = observing_lawful unsigned_ordered f law
over_lawful name.Latest f clear law view = latest_lawful unsigned_ordered f law

pub procedure_lawful : (p : NamedProcedure) → ProcedureLawful (meant p)
procedure_lawful (Fast x) = over_lawful name.Fast (family_of x.rule) (clear_of x.rule) (chosen_lawful x.rule) (chosen_clear x.rule)
procedure_lawful (Observing x) = over_lawful name.Observing (family_of x.rule) (clear_of x.rule) (chosen_lawful x.rule) (chosen_clear x.rule)
procedure_lawful (Latest x) = over_lawful name.Latest (family_of x.rule) (clear_of x.rule) (chosen_lawful x.rule) (chosen_clear x.rule)
