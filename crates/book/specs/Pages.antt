-- What a book keeps, and what its guards test. Assumes nothing.
use Rattle.std.specs.Prelude.{ℕ, zero, suc, ◌+◌, ◌*◌, ◌/◌, Bool, false, not, ◌&&◌, ◌||◌, List, ◌++◌, length, take, drop, Some, None, Option}
use Rattle.quorum.specs.Rules.{Family}
use Rattle.setup.specs.Rows.{boxes_with, entry, same}

-- a roster's number of boxes, the list that the rows are kept in, one after another, and how many rows are written
pub record Pages (V : Type 0) : Type 0 where
  pub boxes : ℕ
  pub list : List (Option V)
  pub written : ℕ

-- a book of n boxes, with m rows written in the list
abbrev pub kept : {V : Type 0} → ℕ → List (Option V) → ℕ → Pages V
kept n list m = record { boxes = n; list = list; written = m }

-- a book just opened
abbrev pub fresh : {V : Type 0} → ℕ → List (Option V) → Pages V
fresh n list = kept n list 0

-- how many rows the list has room for: what is left over is unused
abbrev pub rows : {V : Type 0} → Pages V → ℕ
rows b = length b.list / b.boxes

-- row r
abbrev pub row : {V : Type 0} → Pages V → ℕ → List (Option V)
row b r = take b.boxes (drop (r * b.boxes) b.list)

-- the book with one row more
abbrev pub extended : {V : Type 0} → Pages V → List (Option V) → Pages V
extended b votes = record {
  boxes = b.boxes;
  list = take (b.written * b.boxes) b.list ++ votes ++ drop (b.written * b.boxes + b.boxes) b.list;
  written = b.written + 1;
}

-- a box that had voted v, and now votes w, turns from a quorum: v's voters in the earlier row are one, and w is another setup
abbrev pub turns : {V : Type 0} → Family → (V → V → Bool) → List (Option V) → Option V → Option V → Bool
turns f before earlier None y = false
turns f before earlier (Some v) None = false
turns f before earlier (Some v) (Some w) = not (same before v w) && f.quorum (boxes_with before v earlier)

-- some row below m passes the test
abbrev pub some_row : (ℕ → Bool) → ℕ → Bool
some_row test zero = false
some_row test (suc m) = test m || some_row test m

-- box i turns from a quorum of row r
abbrev pub turns_at : {V : Type 0} → Family → (V → V → Bool) → Pages V → List (Option V) → ℕ → ℕ → Bool
turns_at f before b votes i r = turns f before (row b r) (entry (row b r) i) (entry votes i)

-- box i breaks the first guard: it turns from a quorum of some written row
abbrev pub defects : {V : Type 0} → Family → (V → V → Bool) → Pages V → List (Option V) → ℕ → Bool
defects f before b votes i = some_row (turns_at f before b votes i) b.written

-- box i breaks the second guard: the voters of its decision are no quorum
abbrev pub lacks : {V : Type 0} → Family → (V → V → Bool) → List (Option V) → Option V → Bool
lacks f before votes None = false
lacks f before votes (Some w) = not (f.quorum (boxes_with before w votes))

abbrev pub unbacked : {V : Type 0} → Family → (V → V → Bool) → List (Option V) → List (Option V) → ℕ → Bool
unbacked f before votes decisions i = lacks f before votes (entry decisions i)
