-- The boxes that have a setup in a row, which are those that vote for it. Assumes nothing.
use Rattle.std.proofs.Common.{◌≡◌, ℕ, ◌≤◌, Bool, true, List, map, length, min, Some, Option, sym, ap, ◌∙◌, arith}
use Rattle.std.proofs.lemmas.List.{map-id}
use Rattle.quorum.specs.Rules.{Family, Lawful}
use Rattle.quorum.specs.Sets.{everyone, has}
use Rattle.quorum.proofs.Growth.{quorum_grows}
use Rattle.setup.specs.Orders.{Ordered}
use Rattle.setup.specs.Rows.{among, boxes_with, entry}
use Rattle.setup.proofs.Gathering.{among_all, with_has, with_within}
use Rattle.setup.proofs.Sameness.{is_some, some_is}
use Rattle.book.specs.Voting.{Unanimous}

-- in a row of 32 boxes at most, the boxes that have a setup, sought among all of the row's
pub all_sought : {V : Type 0} (before : V → V → Bool) (v : V) (row : List (Option V)) (s r : ℕ) → length row ≤ 32 → s ≡ everyone (min (length row) 32)
    → r ≡ boxes_with before v (among (map (λ x. x) row) s) → r ≡ boxes_with before v row
all_sought {V} before v row s r few all found =
    let whole : min (length row) 32 ≡ length row = omega arith in
    found ∙ ap (λ (l : List (Option V)). boxes_with before v (among l s)) (map-id row)
    ∙ ap (boxes_with before v) (ap (λ (t : ℕ). among row t) (all ∙ ap everyone whole) ∙ among_all row (length row) (omega arith))

module _ {V : Type 0} {before : V → V → Bool} (o : Ordered before) where
  -- the voters are unanimous
  pub voters_unanimous : (v : V) (row : List (Option V)) → Unanimous (boxes_with before v row) v row
  voters_unanimous v row i h = is_some o v (entry row i) (sym (with_has before v row i) ∙ h)

  -- a box that has the setup is among them
  pub votes_among : (v : V) (row : List (Option V)) (i : ℕ) → entry row i ≡ Some v → has (boxes_with before v row) i ≡ true
  votes_among v row i e = with_has before v row i ∙ some_is o v (entry row i) e

  -- a quorum that is unanimous makes the voters one
  pub voters_quorum : (f : Family) → Lawful f → (v : V) (row : List (Option V)) (q : ℕ) → length row ≡ f.boxes → f.quorum q ≡ true → Unanimous q v row
      → f.quorum (boxes_with before v row) ≡ true
  voters_quorum f law v row q len h all =
      quorum_grows f law q (boxes_with before v row) h (λ i e. votes_among v row i (all i e))
      (with_within before v row f.boxes len)
