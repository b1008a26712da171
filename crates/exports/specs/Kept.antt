-- A book that is opened in a list, and rows that are entered into it in turn. Assumes nothing.
use Rattle.std.specs.Prelude.{◌≡◌, ℕ, ◌++◌, List, length, map, min, take, drop, Some, None, Ok, Err, Option, Result}
use Rattle.quorum.specs.declared.refusals.Fault.{Fault}
use Rattle.quorum.specs.declared.refusals.RuleFault.{RuleFault}
use Rattle.quorum.specs.Making.{no_roster}
use Rattle.quorum.specs.Refusals.{either, of_rule}
use Rattle.quorum.specs.Rules.{Family}
use Rattle.setup.specs.Kinds.{number_before}
use Rattle.book.specs.declared.faults.BookFault.{BookFault}
use Rattle.book.specs.Entering.{Enters}
use Rattle.book.specs.Faults.{of_book}
use Rattle.book.specs.Pages.{Pages, fresh}
use Rattle.exports.specs.declared.numbers.RuleNumbers.{RuleNumbers}
use Rattle.exports.specs.Asked.{asked, no_rule}
use Rattle.exports.specs.Flat.{flat, flat_fault, setup_of}
use Rattle.exports.specs.InTurn.{InTurn, part, parts}

-- votes and decisions, and how many of each make a row
pub record Rows : Type 0 where
  pub votes : List (Option ℕ)
  pub each_votes : ℕ
  pub decisions : List (Option ℕ)
  pub each_decisions : ℕ

-- how many rows there are: as many as both have whole
abbrev pub rows : Rows → ℕ
rows r = min (parts r.each_votes r.votes) (parts r.each_decisions r.decisions)

-- what stands after a row: the answer, and the book
pub record Entered : Type 0 where
  pub answer : Result (Unit {0}) BookFault
  pub pages : Pages ℕ

-- row k is entered
abbrev pub RowOf : Family → Rows → ℕ → Entered → Entered → Type 0
RowOf f r k s t = Enters f number_before s.pages (part r.each_votes r.votes k) (part r.each_decisions r.decisions k) t.answer t.pages

-- a book's fault as it is reported
abbrev pub reported : Result (Unit {0}) BookFault → Result (Unit {0}) Fault
reported (Ok u) = Ok u
reported (Err f) = Err (of_book f)

-- What stands at the end: where the roster of n boxes or the rule is declined, nothing is entered; else the rows are, into a fresh book.
abbrev pub KeepsOr : Option RuleFault → Family → ℕ → Rows → List (Option ℕ) → Result (Unit {0}) Fault → List (Option ℕ) → Type 0
KeepsOr (Some g) f n r list answer list' = (answer ≡ Err (of_rule g)) × (list' ≡ list)
KeepsOr None f n r list answer list' =
    (e : Entered) × InTurn (RowOf f r) (record { answer = Ok tt; pages = fresh n list }) (rows r) e × (answer ≡ reported e.answer) × (list' ≡ e.pages.list)

-- the same under the rule that the numbers ask for
abbrev pub Keeps : RuleNumbers → ℕ → Rows → List (Option ℕ) → Result (Unit {0}) Fault → List (Option ℕ) → Type 0
Keeps r n = KeepsOr (either (no_roster n) (no_rule r)) (asked r) n

-- ---- in numbers

-- 2,048 entries of a list at most are read
abbrev pub entries_of : List ℕ → List (Option ℕ)
entries_of numbers = map setup_of (take (min (length numbers) 2048) numbers)

-- the setups or none over the front of the list
abbrev pub written_over : List (Option ℕ) → List ℕ → List ℕ
written_over setups old = map flat setups ++ drop (min (length old) 2048) old

abbrev pub answer_number : Result (Unit {0}) Fault → ℕ
answer_number (Ok u) = 0
answer_number (Err f) = flat_fault f

-- What a book tells.
pub record BookTold (n : ℕ) (r : RuleNumbers) (list votes : List ℕ) (each_votes : ℕ) (decisions : List ℕ) (each_decisions : ℕ) (number : ℕ) (list' : List ℕ) : Type 0 where
  pub answer : Result (Unit {0}) Fault
  pub entries : List (Option ℕ)
  pub keeps : Keeps r n (record { votes = entries_of votes; each_votes = each_votes; decisions = entries_of decisions; each_decisions = each_decisions }) (entries_of list) answer entries
  pub told : number ≡ answer_number answer
  pub list_told : list' ≡ written_over entries list
