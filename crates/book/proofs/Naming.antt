-- The box that a declined row names, and that there is none where it is taken. Assumes nothing.
use Rattle.std.proofs.Common.{◌≡◌, ℕ, Bool, List, length, Some, None, Ok, Err, Option, Result, ◌==◌, nat_lt, subst}
use Rattle.std.specs.Option.{option_map}
use Rattle.quorum.specs.Boxes.{lowest, IsLowest}
use Rattle.quorum.specs.Refusals.{Answers, unless}
use Rattle.quorum.specs.Rules.{Family}
use Rattle.quorum.proofs.Lowest.{lowest_is_lowest, none_passes}
use Rattle.quorum.proofs.Refused.{Each, answers_ok, each_answered, each_either, each_mapped, each_unless, either_none, mapped_none}
use Rattle.book.specs.declared.faults.BookFault.{BookFault}
use Rattle.book.specs.declared.faults.BookFault.TheVariants as fault
use Rattle.book.specs.Entering.{declined, NamesFirst}
use Rattle.book.specs.Pages.{Pages, defects, rows, unbacked}

module _ {V : Type 0} (f : Family) (before : V → V → Bool) (b : Pages V) (votes decisions : List (Option V)) where
  -- the fault names the lowest box that breaks a guard, if it is for one
  abbrev Named : BookFault → Type 0
  Named fault.OtherRoster = Unit {0}
  Named (fault.Length rank) = Unit {0}
  Named fault.NoRow = Unit {0}
  Named (fault.Defection i) = IsLowest (defects f before b votes) b.boxes (Some i)
  Named (fault.Unbacked i) = IsLowest (unbacked f before votes decisions) b.boxes (Some i)

  lowest_at : (test : ℕ → Bool) (i : ℕ) → lowest test b.boxes ≡ Some i → IsLowest test b.boxes (Some i)
  lowest_at test i e = subst (IsLowest test b.boxes) e (lowest_is_lowest test b.boxes)

  -- so does every reason to decline a row
  named : Each Named (declined f before b votes decisions)
  named =
      each_either Named _ _ (each_unless Named (f.boxes == b.boxes) fault.OtherRoster tt)
      (each_either Named _ _ (each_unless Named (length votes == b.boxes) (fault.Length 1) tt)
      (each_either Named _ _ (each_unless Named (length decisions == b.boxes) (fault.Length 2) tt)
      (each_either Named _ _ (each_unless Named (nat_lt b.written (rows b)) fault.NoRow tt)
      (each_either Named _ _ (each_mapped Named fault.Defection (lowest (defects f before b votes) b.boxes) (λ i e. lowest_at (defects f before b votes) i e))
      (each_mapped Named fault.Unbacked (lowest (unbacked f before votes decisions) b.boxes) (λ i e. lowest_at (unbacked f before votes decisions) i e))))))

  -- where there is no reason to decline a row, no box breaks a guard
  unbroken : declined f before b votes decisions ≡ None → IsLowest (defects f before b votes) b.boxes None × IsLowest (unbacked f before votes decisions) b.boxes None
  unbroken e =
      let roster = either_none (unless (f.boxes == b.boxes) fault.OtherRoster) _ e in
      let first = either_none (unless (length votes == b.boxes) (fault.Length 1)) _ roster.1 in
      let second = either_none (unless (length decisions == b.boxes) (fault.Length 2)) _ first.1 in
      let room = either_none (unless (nat_lt b.written (rows b)) fault.NoRow) _ second.1 in
      let guards = either_none (option_map fault.Defection (lowest (defects f before b votes) b.boxes)) _ room.1 in (
        none_passes (defects f before b votes) b.boxes (mapped_none fault.Defection _ guards.0),
        none_passes (unbacked f before votes decisions) b.boxes (mapped_none fault.Unbacked _ guards.1),
      )

  pub names_first : (answer : Result (Unit {0}) BookFault) → Answers (declined f before b votes decisions) (λ (_ : Unit {0}). Unit {0}) answer → NamesFirst f before b votes decisions answer
  names_first answer h =
      let at : (r : Result (Unit {0}) BookFault) → answer ≡ r → Answers (declined f before b votes decisions) (λ (_ : Unit {0}). Unit {0}) r = λ r e.
      subst (Answers (declined f before b votes decisions) (λ (_ : Unit {0}). Unit {0})) e h in
      let said : (g : BookFault) → answer ≡ Err g → Named g = λ g e. each_answered Named (declined f before b votes decisions) _ g named (at (Err g) e) in
      record {
        defector = λ i e. said (fault.Defection i) e;
        unbacked_box = λ i e. said (fault.Unbacked i) e;
        neither = λ e. unbroken (answers_ok (declined f before b votes decisions) _ tt (at (Ok tt) e));
      }
