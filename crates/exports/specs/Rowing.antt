-- What the rows that the code is given say. Assumes nothing.
use Rattle.exports.specs.declared.books.Rows as code
use Rattle.exports.specs.Kept.{Rows}

abbrev pub as_rows : code.Rows → Rows
as_rows r = record { votes = r.votes.now; each_votes = r.each_votes; decisions = r.decisions.now; each_decisions = r.each_decisions }
