-- The promise: what holds of every run, however it is worked. Assumes nothing.
use Rattle.std.specs.Prelude.{◌≡◌, ℕ, suc, ◌<◌, ◌≤◌, Bool, List, map, Some, None, Ok, Err, Option, Result}
use Rattle.quorum.specs.Rules.{Family}
use Rattle.setup.specs.Rows.{entry}
use Rattle.book.specs.declared.faults.BookFault.{BookFault}
use Rattle.book.specs.Entering.{Enters}
use Rattle.book.specs.Pages.{Pages, fresh, rows}
use Rattle.agreement.specs.declared.clocks.Clock.{Clock}
use Rattle.agreement.specs.declared.faults.RunFault.{RunFault}
use Rattle.agreement.specs.declared.slips.Slip.{Slip}
use Rattle.agreement.specs.Calls.{Beats, Opens, Reads}
use Rattle.agreement.specs.Laws.{AllHold, OneClear}
use Rattle.agreement.specs.Protocols.{Protocol}
use Rattle.agreement.specs.Slips.{Stands, casts, held, news}

-- ---- a run as it is worked

-- a moment of a run: after the opening, or after a later call
pub record Moment (V : Type 0) : Type 0 where
  pub clock : Clock
  pub table : List (Slip V)

-- a call, with what it answered: a beat with its sheet, its heard sets, its answer and the sheet after it; or a read with its box and its answer
pub data Call (V : Type 0) : Type 0 where
  beat : List (Slip V) → List ℕ → Result (Unit {0}) RunFault → List (Slip V) → Call V
  read : ℕ → Result (Slip V) RunFault → Call V

-- the call was made at this moment and left that one
abbrev pub Leaves : {V : Type 0} → Protocol V → Moment V → Call V → Moment V → Type 0
Leaves p m (beat sheet heard answer sheet') n = Beats p m.clock m.table sheet heard answer n.clock n.table sheet'
Leaves p m (read i answer) n = Reads p m.table i answer × (n ≡ m)

-- A run is opened on a table that holds anything, and worked by `calls` calls, each on what the one before left.
pub record Worked {V : Type 0} (p : Protocol V) (proposals : List V) (calls : ℕ) (call : ℕ → Call V) (at : ℕ → Moment V) : Type 0 where
  pub found : List (Slip V)
  pub opens : Opens p proposals found (Ok (at 0).clock) (at 0).table
  pub goes : (t : ℕ) → t < calls → Leaves p (at t) (call t) (at (suc t))

-- box i holds v
abbrev pub Holds : {V : Type 0} → Moment V → ℕ → V → Type 0
Holds m i v = entry (held m.table) i ≡ Some v

-- ---- agreement

-- No two boxes, at the same or different moments, hold different setups, and a box that holds one holds it from then on.
pub record Agreement {V : Type 0} (calls : ℕ) (at : ℕ → Moment V) : Type 0 where
  pub one : (s t i j : ℕ) (v w : V) → s ≤ calls → t ≤ calls → Holds (at s) i v → Holds (at t) j w → v ≡ w
  pub stays : (s t i : ℕ) (v : V) → s ≤ t → t ≤ calls → Holds (at s) i v → Holds (at t) i v

-- ---- validity, and the books

-- Each held setup was proposed at the opening.
abbrev pub Validity : {V : Type 0} → List V → ℕ → (ℕ → Moment V) → Type 0
Validity {V} proposals calls at = (t i : ℕ) (v : V) → t ≤ calls → Holds (at t) i v → Stands v (map Some proposals)

-- phase k has just ended: it is finished, and no beat after it is taken
abbrev pub Ends : {V : Type 0} → Moment V → ℕ → Type 0
Ends m k = (m.clock.phase ≡ suc k) × (m.clock.beat ≡ 0)

-- the two rules have one roster and the same quorums
abbrev pub SameRule : Family → Family → Type 0
SameRule f g = (f.boxes ≡ g.boxes) × ((s : ℕ) → f.quorum s ≡ g.quorum s)

-- A book of the run: fresh on any list, and then the first `phases` phases are entered in order, each under a rule with the procedure's roster and quorums,
-- with the casts as votes and the news as decisions that the table has at a moment when the phase has just ended.
pub record Kept {V : Type 0} (before : V → V → Bool) (p : Protocol V) (calls : ℕ) (at : ℕ → Moment V) (phases : ℕ) (book : ℕ → Pages V) (answer : ℕ → Result (Unit {0}) BookFault) : Type 0 where
  pub list : List (Option V)
  pub opens : book 0 ≡ fresh p.rule.boxes list
  pub rule : ℕ → Family
  pub rules : (k : ℕ) → k < phases → SameRule (rule k) p.rule
  pub end : ℕ → ℕ
  pub made : (k : ℕ) → k < phases → end k ≤ calls
  pub ends : (k : ℕ) → k < phases → Ends (at (end k)) k
  pub enters : (k : ℕ) → k < phases → Enters (rule k) before (book k) (casts (at (end k)).table) (news (at (end k)).table) (answer k) (book (suc k))

-- Every such book takes every phase, until its rows are full.
abbrev pub Books : {V : Type 0} → (V → V → Bool) → Protocol V → ℕ → (ℕ → Moment V) → Type 0
Books {V} before p calls at =
    (phases : ℕ) (book : ℕ → Pages V) (answer : ℕ → Result (Unit {0}) BookFault) → Kept before p calls at phases book answer
    → (k : ℕ) → k < phases → k < rows (book 0) → answer k ≡ Ok tt

-- ---- settling

-- the heard sets of a beat that was taken
abbrev pub taken : {V : Type 0} → Call V → Option (List ℕ)
taken (beat sheet heard (Ok u) sheet') = Some heard
taken (beat sheet heard (Err f) sheet') = None
taken (read i answer) = None

-- in each beat of phase k that was taken before moment t, all boxes heard one and the same clear set
abbrev pub ClearPhase : {V : Type 0} → Protocol V → (ℕ → Call V) → (ℕ → Moment V) → ℕ → ℕ → Type 0
ClearPhase p call at t k = (s : ℕ) (heard : List ℕ) → s < t → (at s).clock.phase ≡ k → taken (call s) ≡ Some heard → OneClear p k (at s).clock.beat heard

-- After two consecutive finished phases, in each of whose beats all boxes heard one and the same clear set, every box holds a setup.
abbrev pub Settling : {V : Type 0} → Protocol V → ℕ → (ℕ → Call V) → (ℕ → Moment V) → Type 0
Settling p calls call at = (t k : ℕ) → t ≤ calls → suc (suc k) ≤ (at t).clock.phase → ClearPhase p call at t k → ClearPhase p call at t (suc k) → AllHold p.rule.boxes (at t).table

-- ---- the whole

-- what holds of one way to work a run
pub record Promised {V : Type 0} (before : V → V → Bool) (p : Protocol V) (proposals : List V) (calls : ℕ) (call : ℕ → Call V) (at : ℕ → Moment V) : Type 0 where
  pub agreement : Agreement calls at
  pub validity : Validity proposals calls at
  pub books : Books before p calls at
  pub settling : Settling p calls call at

-- it holds over every run: whatever is proposed, heard and asked
abbrev pub Promise : {V : Type 0} → (V → V → Bool) → Protocol V → Type 0
Promise {V} before p =
    (proposals : List V) (calls : ℕ) (call : ℕ → Call V) (at : ℕ → Moment V) → Worked p proposals calls call at → Promised before p proposals calls call at
