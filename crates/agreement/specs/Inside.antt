-- What inner contracts, loop invariants, the lemmas of a beat and the office's answer cite: a list that is being overwritten, and a beat that goes on. Assumes nothing.
use Rattle.std.specs.Prelude.{◌≡◌, ℕ, ◌<◌, ◌≤◌, List, ◌++◌, length, take, drop, Option, Result, slice_index_or}
use Rattle.quorum.specs.Boxes.{lowest}
use Rattle.agreement.specs.declared.clocks.Clock.{Clock}
use Rattle.agreement.specs.declared.faults.RunFault.{RunFault}
use Rattle.agreement.specs.declared.hearing.Given.{Given}
use Rattle.agreement.specs.declared.slips.Slip.{Slip}
use Rattle.agreement.specs.Calls.{no_beat, waits, BeatsNaming}
use Rattle.agreement.specs.Laws.{last}
use Rattle.agreement.specs.Protocols.{Protocol}

-- x stands at place i of the list
pub record At {A : Type 0} (list : List A) (i : ℕ) (x : A) : Type 0 where
  pub inside : i < length list
  pub is : slice_index_or list i x ≡ x

-- the first i items are new, the others old
abbrev pub overwritten : {A : Type 0} → List A → List A → ℕ → List A
overwritten new old i = take i new ++ drop i old

-- the box that the code names where one must wait
abbrev pub lowest_waiting : {V : Type 0} → Protocol V → Clock → List ℕ → Option ℕ
lowest_waiting p c heard = lowest (waits p c.phase c.beat heard) p.rule.boxes

-- so named, the reason to decline a beat, and the beat
abbrev pub no_beat_lowest : {V : Type 0} → Protocol V → Clock → ℕ → ℕ → List ℕ → Option RunFault
no_beat_lowest p c table sheet heard = no_beat p c table sheet heard (lowest_waiting p c heard)

abbrev pub BeatsLowest : {V : Type 0} → Protocol V → Clock → List (Slip V) → List (Slip V) → List ℕ → Result (Unit {0}) RunFault → Clock → List (Slip V) → List (Slip V) → Type 0
BeatsLowest p c table sheet heard = BeatsNaming (lowest_waiting p c heard) p c table sheet heard

-- What is known of a beat that goes on: it is given what is due, the last phase is not finished, and table and sheet are as long as the roster. Of the heard sets
-- the struct says so itself.
pub record GoesOn {P V : Type 0} (p : Protocol V) (procedure : P) (c : Clock) (table sheet : ℕ) (sets : List ℕ) (given : Given P) : Type 0 where
  pub by : given.procedure.now ≡ procedure
  pub phase : given.phase ≡ c.phase
  pub beat : given.beat ≡ c.beat
  pub heard : given.heard.now ≡ sets
  pub unclosed : c.phase ≤ last
  pub boxes : given.boxes ≡ p.rule.boxes
  pub table_length : table ≡ p.rule.boxes
  pub sheet_length : sheet ≡ p.rule.boxes
