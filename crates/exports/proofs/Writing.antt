-- Texts that are written into a room. Assumes nothing.
use Rattle.std.proofs.Common.{◌≡◌, ℕ, List, [], ◌∷◌, ◌++◌, sym, ap, ◌∙◌}
use Rattle.std.specs.Fmt.{WritesInCalls}
use Rattle.std.specs.List.{FoldsTo}
use Rattle.std.proofs.lemmas.Fmt.{contents_after_writes}
use Rattle.exports.specs.declared.room.Room.{Room}
use Rattle.exports.specs.Rooms.{text_of}

-- a piece that is written
abbrev pub Took : Room → List ℕ → Room → Type 0
Took r bytes t = (text_of t ≡ text_of r ++ bytes) × (t.bytes.ghost_name ≡ r.bytes.ghost_name)

calls_lent : (r : Room) (pieces : List (List ℕ)) (t : Room) → FoldsTo Took r pieces t → t.bytes.ghost_name ≡ r.bytes.ghost_name
calls_lent r [] t folds = ap (λ (x : Room). x.bytes.ghost_name) (sym folds)
calls_lent r (p ∷ ps) t folds = calls_lent folds.0 ps t folds.2 ∙ folds.1.1

-- pieces that are written one after another are written, in the same bytes
pub writes_text : (r : Room) (bytes : List ℕ) (t : Room) → WritesInCalls Took r bytes t → text_of t ≡ text_of r ++ bytes
writes_text r bytes t w = contents_after_writes Took text_of (λ x b y took. took.0) r bytes t w

pub writes_lent : (r : Room) (bytes : List ℕ) (t : Room) → WritesInCalls Took r bytes t → t.bytes.ghost_name ≡ r.bytes.ghost_name
writes_lent r bytes t w = calls_lent r w.parts t w.calls
