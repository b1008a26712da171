-- What a call passes on by `?` is no `Ok`. Assumes nothing.
use Rattle.std.proofs.Common.{Ok, Err, Result, IsErrAnd, IsOk}

pub never : {X F Z : Type 0} (r : Result X F) (Q : F → Type 0) → IsErrAnd r Q → IsOk r → Z
never (Ok x) Q e ok = absurd e
never (Err f) Q e ok = absurd (cc)
