-- When a case comes out as expected. Assumes nothing.
use Rattle.std.specs.Prelude.{Bool}
use Rattle.std.specs.Str.{bytes_eq}
use Rattle.office.specs.Answers.{answer}
use Rattle.office.specs.Printed.{printed}
use Rattle.cases.specs.declared.case.Case.{Case}

abbrev pub right : Case → Bool
right c = bytes_eq (printed (answer c.text.items)) c.expected.items
