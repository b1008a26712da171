-- An answer with its value read by a function and its fault as it is; and one call after another. Assumes nothing.
use Rattle.std.specs.Prelude.{Ok, Err, Result}

abbrev pub told : {X Y E : Type 0} → (X → Y) → Result X E → Result Y E
told f (Ok x) = Ok (f x)
told f (Err e) = Err e

-- one call, and with its value the next
abbrev pub and_then : {X Y E : Type 0} → Result X E → (X → Result Y E) → Result Y E
and_then (Ok x) f = f x
and_then (Err e) f = Err e
