-- The two guards of a round of voting, for every rule and kind of setup. A row has for each box its vote, or none. Assumes nothing.
use Rattle.std.specs.Prelude.{◌≡◌, ℕ, ◌<◌, true, List, Some, Option}
use Rattle.quorum.specs.Rules.{Family}
use Rattle.quorum.specs.Sets.{has}
use Rattle.setup.specs.Rows.{entry}

-- all boxes of the set have v in the row
abbrev pub Unanimous : {V : Type 0} → ℕ → V → List (Option V) → Type 0
Unanimous s v row = (i : ℕ) → has s i ≡ true → entry row i ≡ Some v

-- no box defects from a quorum that the earlier row formed: where all of a quorum voted v there, each box of it that votes now votes v
abbrev pub Loyal : {V : Type 0} → Family → List (Option V) → List (Option V) → Type 0
Loyal {V} f earlier votes =
    (q i : ℕ) (v w : V) → f.quorum q ≡ true → Unanimous q v earlier → has q i ≡ true → entry votes i ≡ Some w → w ≡ v

-- every decision has a quorum all of whose boxes vote for it
abbrev pub Backed : {V : Type 0} → Family → List (Option V) → List (Option V) → Type 0
Backed {V} f votes decisions =
    (i : ℕ) (w : V) → entry decisions i ≡ Some w → (q : ℕ) × (f.quorum q ≡ true) × Unanimous q w votes

-- both guards of a row, of which the earlier rows are those numbered below `rows`
abbrev pub Guards : {V : Type 0} → Family → (ℕ → List (Option V)) → ℕ → List (Option V) → List (Option V) → Type 0
Guards f earlier rows votes decisions = ((r : ℕ) → r < rows → Loyal f (earlier r) votes) × Backed f votes decisions
