-- What reaches a process in a round, as published algorithms speak of it: one message from each process that it heard, and how often a value is among them. Assumes nothing.
use Rattle.std.specs.Prelude.{◌≡◌, ℕ, ◌+◌, ◌<◌, ◌≤◌, Bool, false, cond, List, [], ◌∷◌, length, Some, Option}
use Rattle.quorum.specs.Sets.{has}
use Rattle.setup.specs.Rows.{entry, is}
use Rattle.agreement.specs.Slips.{Stands}

-- the messages of the processes of the heard set, the first process being i
abbrev pub messages : {A B : Type 0} → (A → B) → List A → ℕ → ℕ → List B
messages send [] heard i = []
messages send (x ∷ xs) heard i = cond (has heard i) (send x ∷ messages send xs heard (i + 1)) (messages send xs heard (i + 1))

-- how often v was received. A message is a value or none.
abbrev pub times : {V : Type 0} → (V → V → Bool) → V → List (Option V) → ℕ
times before v [] = 0
times before v (x ∷ received) = cond (is before v x) 1 0 + times before v received

-- all the values received equal v
abbrev pub AllEqual : {V : Type 0} → V → List (Option V) → Type 0
AllEqual v received = (i : ℕ) → i < length received → entry received i ≡ Some v

-- v is the smallest value received
pub record Smallest {V : Type 0} (before : V → V → Bool) (received : List (Option V)) (v : V) : Type 0 where
  pub was_received : Stands v received
  pub least : (w : V) → Stands w received → before w v ≡ false

-- v is the smallest of the values received most often
pub record SmallestMostOften {V : Type 0} (before : V → V → Bool) (received : List (Option V)) (v : V) : Type 0 where
  pub was_received : Stands v received
  pub most : (w : V) → Stands w received → times before w received ≤ times before v received
  pub least : (w : V) → Stands w received → times before w received ≡ times before v received → before w v ≡ false
