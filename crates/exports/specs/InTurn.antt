-- Calls in turn, and the parts of a list that they are given. Assumes nothing.
use Rattle.std.specs.Prelude.{◌≡◌, ℕ, zero, suc, ◌*◌, ◌/◌, cond, List, length, take, drop, ◌==◌}

-- k steps in turn take s to t, step j being the j-th
abbrev pub InTurn : {S : Type 0} → (ℕ → S → S → Type 0) → S → ℕ → S → Type 0
InTurn step s zero t = t ≡ s
InTurn {S} step s (suc k) t = (m : S) × InTurn step s k m × step k m t

-- how many whole parts a list has, each so long
abbrev pub parts : {X : Type 0} → ℕ → List X → ℕ
parts each l = cond (each == 0) 0 (length l / each)

-- part k
abbrev pub part : {X : Type 0} → ℕ → List X → ℕ → List X
part each l k = take each (drop (k * each) l)
