-- What two readings of a run have in common. Assumes nothing.
use Rattle.std.specs.Prelude.{◌≡◌, Some, None, Ok, Err, Option, Result}

-- where both boxes held a setup, it was the same
abbrev pub OneSetup : {V F : Type 0} → Result (Option (V × V)) F → Type 0
OneSetup (Ok (Some both)) = both.0 ≡ both.1
OneSetup (Ok None) = Unit {0}
OneSetup (Err f) = Unit {0}
