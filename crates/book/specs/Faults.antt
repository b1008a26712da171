-- What the faults of a book report. Assumes nothing.
use Rattle.std.specs.Prelude.{ℕ}
use Rattle.quorum.specs.declared.refusals.Fault.{Fault}
use Rattle.quorum.specs.declared.refusals.Layer.TheVariants as layer
use Rattle.quorum.specs.declared.refusals.Refusal.{Refusal}
use Rattle.quorum.specs.declared.refusals.Refusal.TheVariants as refusal
use Rattle.book.specs.declared.faults.BookFault.{BookFault}
use Rattle.book.specs.declared.faults.BookFault.TheVariants as book

abbrev reason : BookFault → Refusal
reason book.OtherRoster = refusal.OtherRoster
reason (book.Length k) = refusal.Length
reason book.NoRow = refusal.NoRow
reason (book.Defection i) = refusal.Defection
reason (book.Unbacked i) = refusal.Unbacked

-- the rank of a list, a box, or 0
abbrev place : BookFault → ℕ
place book.OtherRoster = 0
place (book.Length k) = k
place book.NoRow = 0
place (book.Defection i) = i
place (book.Unbacked i) = i

abbrev pub of_book : BookFault → Fault
of_book f = record { refusal = reason f; layer = layer.Book; place = place f }
