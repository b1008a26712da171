-- Where the rows stand in the list, and what a new one leaves. Assumes nothing.
use Rattle.std.proofs.Common.{◌≡◌, ℕ, suc, ◌+◌, ◌-◌, ◌*◌, ◌/◌, ◌<◌, ◌≤◌, List, ◌++◌, length, take, drop, Option, ap, ◌∙◌, le_refl, mul-le-mul_right, suc-mul, div-mul-le_self, arith, add-one}
use Rattle.std.proofs.lemmas.List.{append_assoc, drop-append-le, drop_at, drop-take, length-append, length-drop, length-take, length-take-le, take-append-le, take_at, take-take}
use Rattle.book.specs.Pages.{Pages, extended, row, rows}

-- a row ends where the next begins
pub row_ends : (r m n k : ℕ) → r < m → m * n ≤ k → r * n + n ≤ k
row_ends r m n k lt le =
    let next : suc r * n ≤ m * n = mul-le-mul_right n lt in
    omega (arith, suc-mul r n)

-- a list of k entries has room for row r
pub row_fits : (r n k : ℕ) → r < k / n → r * n + n ≤ k
row_fits r n k lt = row_ends r (k / n) n k lt (div-mul-le_self k n)

-- and for one more than r rows
pub row_counted : (r n k : ℕ) → r < k / n → (r + 1) * n ≤ k
row_counted r n k lt = rw add-one (omega (arith, suc-mul r n, row_fits r n k lt))

-- each row before the last that it has room for is full
pub length_row : {V : Type 0} (b : Pages V) (r : ℕ) → r < b.written → b.written < rows b → length (row b r) ≡ b.boxes
length_row b r below room =
    let end = row_fits r b.boxes (length b.list) (omega arith) in
    simp (length-take, length-drop) (omega arith)

-- ---- the book with one row more

module _ {V : Type 0} (b : Pages V) (votes : List (Option V)) (room : b.written < rows b) (size : length votes ≡ b.boxes) where
  end : b.written * b.boxes + b.boxes ≤ length b.list
  end = row_fits b.written b.boxes (length b.list) room

  abbrev before : List (Option V)
  before = take (b.written * b.boxes) b.list

  length_before : length before ≡ b.written * b.boxes
  length_before = length-take-le (b.written * b.boxes) b.list (omega (arith, end))

  abbrev behind : List (Option V)
  behind = drop (b.written * b.boxes + b.boxes) b.list

  -- its rows so far are as they were
  pub row_extended : (r : ℕ) → r < b.written → row (extended b votes) r ≡ row b r
  row_extended r below =
      let n = b.boxes in
      let at = r * n in
      let ends = row_ends r b.written n (b.written * n) below (le_refl _) in
      let split : b.written * n ≡ at + (b.written * n - at) = omega arith in
      ap (λ (l : List (Option V)). take n (drop at l)) (append_assoc before votes behind)
      ∙ ap (take n) (drop-append-le at before (votes ++ behind) (omega (arith, length_before)))
      ∙ take-append-le n (drop at before) (votes ++ behind) (simp length-drop (omega (arith, length_before)))
      ∙ ap (λ (k : ℕ). take n (drop at (take k b.list))) split
      ∙ ap (take n) (drop-take at (b.written * n - at) b.list)
      ∙ take-take n (b.written * n - at) (drop at b.list) (omega arith)

  -- and the next one is the votes
  pub row_entered : row (extended b votes) b.written ≡ votes
  row_entered =
      ap (λ (l : List (Option V)). take b.boxes (drop (b.written * b.boxes) l)) (append_assoc before votes behind)
      ∙ ap (take b.boxes) (drop_at before (votes ++ behind) (b.written * b.boxes) length_before)
      ∙ take_at votes behind b.boxes size

  -- it has the same room
  pub rows_extended : rows (extended b votes) ≡ rows b
  rows_extended =
      let same : length (before ++ votes ++ behind) ≡ length b.list = simp (length-append, length-drop) (omega (arith, length_before, end)) in
      ap (λ (k : ℕ). k / b.boxes) same
