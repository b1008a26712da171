-- What a procedure means, and the tables that its beats make. Assumes nothing.
use Rattle.std.specs.Prelude.{ℕ, zero, suc, ◌+◌, Bool, List, [], ◌∷◌, slice_index}
use Rattle.quorum.specs.Rules.{Family}
use Rattle.agreement.specs.declared.slips.Slip.{Slip}

pub record Protocol (V : Type 0) : Type 0 where
  -- the roster and its quorums
  pub rule : Family
  -- how many beats a phase has
  pub beats : ℕ
  -- by phase, beat and set: the heard sets with which a box goes on, and those that are clear
  pub admits : ℕ → ℕ → ℕ → Bool
  pub clear : ℕ → ℕ → ℕ → Bool
  -- by phase, beat, box, the box's slip, its heard set and the table: its new slip
  pub next : ℕ → ℕ → ℕ → Slip V → ℕ → List (Slip V) → Slip V

-- what f makes of each of a list and its place, the first place being i
abbrev pub numbered : {A B : Type 0} → (ℕ → A → B) → ℕ → List A → List B
numbered f i [] = []
numbered f i (x ∷ xs) = f i x ∷ numbered f (i + 1) xs

-- the table after a beat: every slip is made from the slips as they stood before it
abbrev pub beaten : {V : Type 0} → Protocol V → ℕ → ℕ → List ℕ → List (Slip V) → List (Slip V)
beaten p k b heard table = numbered (λ i s. p.next k b i s (slice_index heard i) table) 0 table

-- the table after the first b beats of phase k, the heard sets being given by phase and beat
abbrev pub within_phase : {V : Type 0} → Protocol V → (ℕ → ℕ → List ℕ) → ℕ → ℕ → List (Slip V) → List (Slip V)
within_phase p heard k zero table = table
within_phase p heard k (suc b) table = beaten p k b (heard k b) (within_phase p heard k b table)

-- the table after the first k phases
abbrev pub through : {V : Type 0} → Protocol V → (ℕ → ℕ → List ℕ) → ℕ → List (Slip V) → List (Slip V)
through p heard zero table = table
through p heard (suc k) table = within_phase p heard k p.beats (through p heard k table)
