-- What a box received in a beat, as a row: for each box that it heard what that one sent, and none for every other box. Assumes nothing.
use Rattle.std.specs.Prelude.{◌≡◌, ℕ, ◌≤◌, ◌-◌, Bool, true, false, cond, List, length, map, Some, None, Option, ◌==◌, bit_or}
use Rattle.std.specs.Option.{option_and_then, option_map}
use Rattle.quorum.specs.Boxes.{lowest}
use Rattle.quorum.specs.Rules.{Family}
use Rattle.quorum.specs.Sets.{count, everyone}
use Rattle.setup.specs.Kinds.{dated_before}
use Rattle.setup.specs.Rows.{among, boxes_with, entry, first}
use Rattle.agreement.specs.declared.slips.Slip.{Slip}
use Rattle.agreement.specs.Slips.{Stands}

-- what the boxes that were heard sent, a field of their slips
abbrev pub received : {V W : Type 0} → (Slip V → Option W) → List (Slip V) → ℕ → List (Option W)
received field table heard = among (map field table) heard

-- the fields that are sent
abbrev pub own : {V : Type 0} → Slip V → Option V
own slip = Some slip.own

abbrev pub pick : {V : Type 0} → Slip V → Option V
pick slip = slip.pick

abbrev pub say : {V : Type 0} → Slip V → Option V
say slip = slip.say

abbrev pub dated : {V : Type 0} → Slip V → Option (ℕ × V)
dated slip = slip.dated

-- the smallest of what was received
abbrev pub smallest : {V : Type 0} → (V → V → Bool) → List (Option V) → Option V
smallest before row = first before row

-- the senders of v: the boxes that were heard and sent it
abbrev pub senders : {V : Type 0} → (V → V → Bool) → V → List (Option V) → ℕ
senders before v row = boxes_with before v row

-- the boxes of the roster that were not heard, where those that were are of the roster
abbrev pub unheard : ℕ → ℕ → ℕ
unheard n heard = everyone n - heard

-- ---- a setup that a quorum backs

-- the senders of what a box sent, together with the others, are a quorum
abbrev pub elects : {V : Type 0} → Family → (V → V → Bool) → ℕ → List (Option V) → Option V → Bool
elects f before others row None = false
elects f before others row (Some v) = f.quorum (bit_or (senders before v row) others)

-- the lowest box that sent a setup whose senders, together with the others, are a quorum
abbrev pub backer : {V : Type 0} → Family → (V → V → Bool) → ℕ → List (Option V) → Option ℕ
backer f before others row = lowest (λ i. elects f before others row (entry row i)) (length row)

-- what it sent
abbrev pub backed : {V : Type 0} → Family → (V → V → Bool) → ℕ → List (Option V) → Option V
backed f before others row = option_and_then (entry row) (backer f before others row)

-- It was received, and its senders together with the others are a quorum. There is none where this is so of no setup that was received.
abbrev pub IsBacked : {V : Type 0} → Family → (V → V → Bool) → ℕ → List (Option V) → Option V → Type 0
IsBacked {V} f before others row None = (v : V) → Stands v row → f.quorum (bit_or (senders before v row) others) ≡ false
IsBacked f before others row (Some v) = Stands v row × (f.quorum (bit_or (senders before v row) others) ≡ true)

-- ---- a setup that all sent

-- the smallest received, where all the boxes that were heard sent it
abbrev pub unanimous : {V : Type 0} → (V → V → Bool) → ℕ → List (Option V) → Option V
unanimous before heard row = option_and_then (λ v. cond (senders before v row == heard) (Some v) None) (smallest before row)

-- It was received, and its senders are all the boxes that were heard. There is none where this is so of no setup that was received.
abbrev pub IsUnanimous : {V : Type 0} → (V → V → Bool) → ℕ → List (Option V) → Option V → Type 0
IsUnanimous {V} before heard row None = (v : V) → Stands v row → senders before v row ≡ heard → ⊥
IsUnanimous before heard row (Some v) = Stands v row × (senders before v row ≡ heard)

-- ---- the setup that most sent

-- what a box sent, with how many boxes sent it
abbrev pub counted : {V : Type 0} → (V → V → Bool) → List (Option V) → Option V → Option (ℕ × V)
counted before row sent = option_map (λ v. (count (senders before v row), v)) sent

-- the smallest of those most often received: the first of these pairs, the greater number coming first, and of one number the smaller setup
abbrev pub most_often : {V : Type 0} → (V → V → Bool) → List (Option V) → Option V
most_often before row = option_map (λ d. d.1) (first (dated_before before) (map (counted before row) row))

-- No other was received more often, nor as often and comes before it. There is none where nothing was received.
abbrev pub IsMostOften : {V : Type 0} → (V → V → Bool) → List (Option V) → Option V → Type 0
IsMostOften {V} before row None = (v : V) → Stands v row → ⊥
IsMostOften {V} before row (Some v) =
    Stands v row
    × ((w : V) → Stands w row → (count (senders before w row) ≤ count (senders before v row)) × (count (senders before w row) ≡ count (senders before v row) → before w v ≡ false))
