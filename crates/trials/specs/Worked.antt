-- Worked examples: what the definitions give, and what it should be. Assumes nothing.
use Rattle.std.specs.Prelude.{ℕ, Bool, true, false, List, [], ◌∷◌, map, Some, None, Option, nat_lt}
use Rattle.std.specs.Option.{option_map}
use Rattle.quorum.specs.Families.{anchored, at_least, majority, present, sizes, thirds}
use Rattle.quorum.specs.Making.{no_roster, no_size}
use Rattle.quorum.specs.Refusals.{either, number, of_rule}
use Rattle.quorum.specs.declared.refusals.RuleFault.{RuleFault}
use Rattle.book.specs.Entering as book
use Rattle.book.specs.Faults.{of_book}
use Rattle.book.specs.Pages.{Pages, extended, fresh}
use Rattle.book.specs.declared.faults.BookFault.{BookFault}
use Rattle.agreement.specs.declared.slips.Slip.{Slip}
use Rattle.agreement.specs.Protocols.{Protocol, beaten}
use Rattle.agreement.specs.Slips.{news, opened, opening}
use Rattle.procedures.specs.Fast.{fast}
use Rattle.procedures.specs.Latest.{latest}
use Rattle.procedures.specs.Received.{own, pick}

-- an answer of a definition: whether a set is a quorum; the number of a refusal, with none where the call is accepted; or what each box has in a field of its slip
pub data Answer : Type 0 where
  quorum : Bool → Answer
  declined : Option ℕ → Answer
  row : List (Option ℕ) → Answer

-- ---- rules

abbrev making : Option RuleFault → Answer
making f = declined (option_map (λ (x : RuleFault). number (of_rule x).refusal) f)

-- ---- Fast and Latest

-- a setup for each box, and one for all of three or four
abbrev each : List ℕ → List (Option ℕ)
each setups = map Some setups

abbrev three : {A : Type 0} → A → List A
three x = x ∷ x ∷ x ∷ []

abbrev four : {A : Type 0} → A → List A
four x = x ∷ x ∷ x ∷ x ∷ []

-- Fast over two thirds of four boxes, and over a majority of three with only the whole roster clear
abbrev by_thirds : Protocol ℕ
by_thirds = fast nat_lt (sizes 4 (thirds 4)) (at_least 4 (thirds 4))

abbrev all_present : Protocol ℕ
all_present = fast nat_lt (majority 3) (present (majority 3))

-- a split vote: all hear all, in one beat and in the next
abbrev split_once : List (Slip ℕ)
split_once = beaten by_thirds 0 0 (four 15) (opened (5 ∷ 5 ∷ 2 ∷ 2 ∷ []))

abbrev split_twice : List (Slip ℕ)
split_twice = beaten by_thirds 1 0 (four 15) split_once

-- box 3 does not hear box 2, and the others hear nobody
abbrev missed : List (Slip ℕ)
missed = beaten by_thirds 0 0 (0 ∷ 0 ∷ 0 ∷ 11 ∷ []) (opened (5 ∷ 5 ∷ 5 ∷ 2 ∷ []))

-- all three hear boxes 1 and 2
abbrev two_heard : List (Slip ℕ)
two_heard = beaten all_present 0 0 (three 6) (opened (1 ∷ 2 ∷ 2 ∷ []))

-- Latest over a majority of three: all hear all, and two have a dated vote
abbrev with_dates : List (Option (ℕ × ℕ)) → List (Slip ℕ)
with_dates dates = map (λ d. record (opening 7) { dated = d }) dates

abbrev latest_wins : List (Slip ℕ)
latest_wins = beaten (latest nat_lt (majority 3)) 3 0 (three 7) (with_dates (Some (0, 9) ∷ Some (2, 4) ∷ None ∷ []))

-- ---- a book of three boxes under majority, and two rows of it

abbrev pages : Pages ℕ
pages = fresh 3 (None ∷ None ∷ None ∷ None ∷ None ∷ None ∷ [])

abbrev entered : Pages ℕ → List (Option ℕ) → List (Option ℕ) → Answer
entered b votes decisions = declined (option_map (λ (x : BookFault). number (of_book x).refusal) (book.declined (majority 3) nat_lt b votes decisions))

-- after the row 5, 5, none
abbrev later : Pages ℕ
later = extended pages (Some 5 ∷ Some 5 ∷ None ∷ [])

-- ---- all of them

abbrev pub computed : List Answer
computed =
    quorum ((majority 4).quorum 3)
    ∷ quorum ((majority 4).quorum 7)
    ∷ making (either (no_roster 5) (no_size 5 3 5))
    ∷ making (either (no_roster 5) (no_size 5 3 4))
    ∷ quorum ((anchored 0 (majority 3)).quorum 6)
    ∷ quorum ((anchored 0 (majority 3)).quorum 3)
    ∷ row (map own split_once)
    ∷ row (news split_once)
    ∷ row (news split_twice)
    ∷ row (map own missed)
    ∷ row (news two_heard)
    ∷ row (map own two_heard)
    ∷ row (map pick latest_wins)
    ∷ entered pages (Some 5 ∷ Some 5 ∷ None ∷ []) (three None)
    ∷ entered later (Some 6 ∷ None ∷ None ∷ []) (three None)
    ∷ entered later (None ∷ None ∷ Some 6 ∷ []) (three None)
    ∷ entered later (Some 5 ∷ None ∷ None ∷ []) (Some 5 ∷ None ∷ None ∷ [])
    ∷ []

abbrev pub expected : List Answer
expected =
    quorum false
    ∷ quorum true
    ∷ declined None
    ∷ declined (Some 3)
    ∷ quorum false
    ∷ quorum true
    ∷ row (each (four 2))
    ∷ row (four None)
    ∷ row (each (four 2))
    ∷ row (each (5 ∷ 5 ∷ 5 ∷ 5 ∷ []))
    ∷ row (each (three 2))
    ∷ row (each (1 ∷ 2 ∷ 2 ∷ []))
    ∷ row (each (three 4))
    ∷ declined None
    ∷ declined (Some 10)
    ∷ declined None
    ∷ declined (Some 11)
    ∷ []
