-- A book that is ready takes a row exactly if it meets both guards. Assumes nothing.
use Rattle.std.proofs.Common.{◌≡◌, ℕ, ◌<◌, Bool, true, eqb, ltb, List, length, None, Ok, Err, Option, Result, sym, refl, ap, ◌∙◌, subst, ap₂}
use Rattle.std.proofs.lemmas.Bool.{eq-eqb, lt-ltb}
use Rattle.std.specs.Option.{option_map}
use Rattle.quorum.specs.Boxes.{lowest}
use Rattle.quorum.specs.Refusals.{Answers, either, unless}
use Rattle.quorum.specs.Rules.{Family, Lawful}
use Rattle.quorum.proofs.Lowest.{lowest_none, none_passes}
use Rattle.quorum.proofs.Refused.{answers_ok, either_none, mapped_none}
use Rattle.setup.specs.Orders.{Ordered}
use Rattle.book.specs.declared.faults.BookFault.{BookFault}
use Rattle.book.specs.declared.faults.BookFault.TheVariants as fault
use Rattle.book.specs.Entering.{declined, Ready, Votes}
use Rattle.book.specs.Pages.{Pages, defects, row, rows, turns_at, unbacked}
use Rattle.book.specs.Voting.{Guards}
use Rattle.book.proofs.Guarding.{backed_lacks, lacks_backed, loyal_turns, turns_loyal}
use Rattle.book.proofs.Places.{length_row}
use Rattle.book.proofs.Rounds.{some_row_all, some_row_none}

-- a check that passes leaves the answer to the next
passed : {F : Type 0} (test : Bool) (f : F) (next : Option F) → test ≡ true → either (unless test f) next ≡ next
passed test f next e = ap (λ (b : Bool). either (unless b f) next) e

module _ {V : Type 0} {before : V → V → Bool} (o : Ordered before) (f : Family) (law : Lawful f) (b : Pages V) (votes decisions : List (Option V)) where
  -- the reason that the guards give
  abbrev unguarded : Option BookFault
  unguarded = either (option_map fault.Defection (lowest (defects f before b votes) b.boxes)) (option_map fault.Unbacked (lowest (unbacked f before votes decisions) b.boxes))

  ready_declined : Ready f b votes decisions → declined f before b votes decisions ≡ unguarded
  ready_declined r =
      passed (eqb f.boxes b.boxes) fault.OtherRoster _ (eq-eqb f.boxes b.boxes r.roster)
      ∙ passed (eqb (length votes) b.boxes) (fault.Length 1) _ (eq-eqb (length votes) b.boxes r.voting)
      ∙ passed (eqb (length decisions) b.boxes) (fault.Length 2) _ (eq-eqb (length decisions) b.boxes r.deciding)
      ∙ passed (ltb b.written (rows b)) fault.NoRow _ (lt-ltb b.written (rows b) r.room)

  pub guards_taken : Ready f b votes decisions → Guards f (row b) b.written votes decisions → declined f before b votes decisions ≡ None
  guards_taken r guards =
      let loyal = lowest_none (defects f before b votes) b.boxes (λ i lt. some_row_none (turns_at f before b votes i) b.written (λ k below. loyal_turns o f law (row b k) votes (guards.0 k below) i)) in
      let backed = lowest_none (unbacked f before votes decisions) b.boxes (λ i lt. backed_lacks o f law votes decisions (r.voting ∙ sym r.roster) guards.1 i) in
      ready_declined r ∙ ap₂ (λ (x y : Option ℕ). either (option_map fault.Defection x) (option_map fault.Unbacked y)) loyal backed

  pub taken_guards : Ready f b votes decisions → declined f before b votes decisions ≡ None → Guards f (row b) b.written votes decisions
  taken_guards r none =
      let neither = either_none (option_map fault.Defection (lowest (defects f before b votes) b.boxes)) (option_map fault.Unbacked (lowest (unbacked f before votes decisions) b.boxes)) (sym (ready_declined r) ∙ none) in
      let loyal = mapped_none fault.Defection (lowest (defects f before b votes) b.boxes) neither.0 in
      let backed = mapped_none fault.Unbacked (lowest (unbacked f before votes decisions) b.boxes) neither.1 in (
        λ k below.
            turns_loyal o f law (row b k) votes (length_row b k below r.room ∙ sym r.roster)
            (λ i lt. some_row_all (turns_at f before b votes i) b.written (none_passes (defects f before b votes) b.boxes loyal i (subst (λ (n : ℕ). i < n) r.roster lt)) k below),
        lacks_backed o f law votes decisions (r.deciding ∙ sym r.roster)
            (λ i lt. none_passes (unbacked f before votes decisions) b.boxes backed i (subst (λ (n : ℕ). i < n) r.roster lt)),
      )

  -- an answer that follows the checks is that of a round of voting
  pub answers_votes : (answer : Result (Unit {0}) BookFault) → Answers (declined f before b votes decisions) (λ (_ : Unit {0}). Unit {0}) answer → Votes f b votes decisions answer
  answers_votes answer h = record {
    taken = λ r e. taken_guards r (answers_ok (declined f before b votes decisions) (λ (_ : Unit {0}). Unit {0}) tt (subst (λ (a : Result (Unit {0}) BookFault). Answers (declined f before b votes decisions) (λ (_ : Unit {0}). Unit {0}) a) e h));
    takes = λ r g. none (guards_taken r g) answer h;
  }
    where
      none : declined f before b votes decisions ≡ None → (a : Result (Unit {0}) BookFault) → Answers (declined f before b votes decisions) (λ (_ : Unit {0}). Unit {0}) a → a ≡ Ok tt
      none e a k = go a (subst (λ (o : Option BookFault). Answers o (λ (_ : Unit {0}). Unit {0}) a) e k)
        where
          go : (x : Result (Unit {0}) BookFault) → Answers {F = BookFault} None (λ (_ : Unit {0}). Unit {0}) x → x ≡ Ok tt
          go (Ok u) d = refl
          go (Err f) d = absurd d
