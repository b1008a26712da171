-- When a book declines a row, and what entering one leaves. Assumes nothing.
use Rattle.std.specs.Prelude.{◌≡◌, ℕ, ◌<◌, Bool, List, length, Some, None, Ok, Err, Option, Result, ◌==◌, nat_lt}
use Rattle.std.specs.Option.{option_map}
use Rattle.quorum.specs.Boxes.{lowest, IsLowest}
use Rattle.quorum.specs.Refusals.{Does, either, unless}
use Rattle.quorum.specs.Rules.{Family}
use Rattle.book.specs.declared.faults.BookFault.{BookFault}
use Rattle.book.specs.declared.faults.BookFault.TheVariants as fault
use Rattle.book.specs.Pages.{Pages, defects, extended, rows, row, unbacked}
use Rattle.book.specs.Voting.{Guards}

-- the reason to decline the row, in the order of the checks
abbrev pub declined : {V : Type 0} → Family → (V → V → Bool) → Pages V → List (Option V) → List (Option V) → Option BookFault
declined f before b votes decisions =
    either (unless (f.boxes == b.boxes) fault.OtherRoster)
    (either (unless (length votes == b.boxes) (fault.Length 1))
    (either (unless (length decisions == b.boxes) (fault.Length 2))
    (either (unless (nat_lt b.written (rows b)) fault.NoRow)
    (either (option_map fault.Defection (lowest (defects f before b votes) b.boxes))
    (option_map fault.Unbacked (lowest (unbacked f before votes decisions) b.boxes))))))

-- Entering a row: without a reason to decline, the book has it as its next row; with one, that is the answer, and the book is as found.
abbrev pub Enters : {V : Type 0} → Family → (V → V → Bool) → Pages V → List (Option V) → List (Option V) → Result (Unit {0}) BookFault → Pages V → Type 0
Enters f before b votes decisions answer after =
    Does (declined f before b votes decisions) (λ _. after ≡ extended b votes) (after ≡ b) answer

-- A row that a guard declines names the lowest box that breaks the guard; if a row is taken, no box breaks either.
pub record NamesFirst {V : Type 0} (f : Family) (before : V → V → Bool) (b : Pages V) (votes decisions : List (Option V)) (answer : Result (Unit {0}) BookFault) : Type 0 where
  pub defector : (i : ℕ) → answer ≡ Err (fault.Defection i) → IsLowest (defects f before b votes) b.boxes (Some i)
  pub unbacked_box : (i : ℕ) → answer ≡ Err (fault.Unbacked i) → IsLowest (unbacked f before votes decisions) b.boxes (Some i)
  pub neither : answer ≡ Ok tt → IsLowest (defects f before b votes) b.boxes None × IsLowest (unbacked f before votes decisions) b.boxes None

-- Room for a row, a rule of the book's roster, and lists of the right length.
pub record Ready {V : Type 0} (f : Family) (b : Pages V) (votes decisions : List (Option V)) : Type 0 where
  pub roster : f.boxes ≡ b.boxes
  pub voting : length votes ≡ b.boxes
  pub deciding : length decisions ≡ b.boxes
  pub room : b.written < rows b

-- Entering as a round of voting: a book that is ready takes the row exactly if it meets both guards.
pub record Votes {V : Type 0} (f : Family) (b : Pages V) (votes decisions : List (Option V)) (answer : Result (Unit {0}) BookFault) : Type 0 where
  pub taken : Ready f b votes decisions → answer ≡ Ok tt → Guards f (row b) b.written votes decisions
  pub takes : Ready f b votes decisions → Guards f (row b) b.written votes decisions → answer ≡ Ok tt
