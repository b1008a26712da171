-- The text in a room. Assumes nothing.
use Rattle.std.specs.Prelude.{ℕ, List, take}
use Rattle.exports.specs.declared.room.Room.{Room}

-- what is written
abbrev pub text_of : Room → List ℕ
text_of r = take r.written r.bytes.now
