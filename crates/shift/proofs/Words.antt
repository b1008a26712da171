-- The names that a text can give, by their bytes. Assumes nothing.
use Rattle.std.proofs.Common.{◌≡◌, ℕ, List, length, Some, codes, ap}
use Rattle.std.proofs.lemmas.Slice.Eq.{HasBytesAt, text_from_reads}
use Rattle.shift.specs.declared.names.RuleName.TheVariants.{Majority, Thirds, Anchored}
use Rattle.shift.specs.declared.names.ProcedureName.TheVariants.{Fast, Observing, Latest}
use Rattle.shift.specs.Names.{procedure, rule}

pub majority : (v : List ℕ) → length v ≡ 8 → HasBytesAt v 0 (codes "majority") → rule v ≡ Some Majority
majority v n h = ap rule (text_from_reads v (codes "majority") n h)

pub thirds : (v : List ℕ) → length v ≡ 6 → HasBytesAt v 0 (codes "thirds") → rule v ≡ Some Thirds
thirds v n h = ap rule (text_from_reads v (codes "thirds") n h)

pub anchored : (v : List ℕ) → length v ≡ 8 → HasBytesAt v 0 (codes "anchored") → rule v ≡ Some Anchored
anchored v n h = ap rule (text_from_reads v (codes "anchored") n h)

pub fast : (v : List ℕ) → length v ≡ 4 → HasBytesAt v 0 (codes "fast") → procedure v ≡ Some Fast
fast v n h = ap procedure (text_from_reads v (codes "fast") n h)

pub observing : (v : List ℕ) → length v ≡ 9 → HasBytesAt v 0 (codes "observing") → procedure v ≡ Some Observing
observing v n h = ap procedure (text_from_reads v (codes "observing") n h)

pub latest : (v : List ℕ) → length v ≡ 6 → HasBytesAt v 0 (codes "latest") → procedure v ≡ Some Latest
latest v n h = ap procedure (text_from_reads v (codes "latest") n h)

pub ruleset rules = (majority, thirds, anchored)

pub ruleset procedures = (fast, observing, latest)
