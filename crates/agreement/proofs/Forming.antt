-- A setup that all boxes of a quorum have in a row. Assumes nothing.
use Rattle.std.proofs.Common.{◌≡◌, ℕ, ◌^◌, ◌<◌, true, List, Option, sym, ◌∙◌}
use Rattle.std.proofs.lemmas.Bool.{ltb-true}
use Rattle.quorum.specs.Members.{has_below}
use Rattle.quorum.specs.Rules.{Family, Lawful}
use Rattle.quorum.specs.Sets.{has}
use Rattle.quorum.proofs.Somes.{some_is}
use Rattle.book.specs.Voting.{Unanimous}
use Rattle.agreement.specs.Slips.{Stands}

-- all boxes of a quorum have v in the row
abbrev pub Formed : {V : Type 0} → Family → V → List (Option V) → Type 0
Formed f v row = (q : ℕ) × (f.quorum q ≡ true) × Unanimous q v row

module _ (f : Family) (law : Lawful f) where
  -- a quorum has a box of the roster
  pub quorum_box : (q : ℕ) → f.quorum q ≡ true → (i : ℕ) × (has q i ≡ true) × (i < f.boxes)
  quorum_box q h = let at = law.shares q q h h in (at.0, at.1, has_below f.boxes q at.0 (ltb-true q (2 ^ f.boxes) (law.inside q h)) at.1)

  -- no two setups form in one row, and one that forms stands there
  pub one_formed : {V : Type 0} (v w : V) (row : List (Option V)) → Formed f v row → Formed f w row → v ≡ w
  one_formed v w row a b = let at = law.shares a.0 b.0 a.1 b.1 in some_is (sym (a.2 at.0 at.1) ∙ b.2 at.0 at.2)

  pub formed_stands : {V : Type 0} (v : V) (row : List (Option V)) → Formed f v row → Stands v row
  formed_stands v row a = let at = quorum_box a.0 a.1 in (at.0, a.2 at.0 at.1)
