-- How a caller comes to the promise: its calls, one after another, work a run. Assumes nothing.
use Rattle.std.proofs.Common.{◌≡◌, ℕ, suc, ◌<◌, ◌≤◌, cond, ltb, ◌⊎◌, List, length, Some, Ok, sym, ap, ◌∙◌, subst, inl, inr, arith}
use Rattle.std.proofs.lemmas.Bool.{cases_lt, cond-false, cond-true, le-ltb, lt-ltb}
use Rattle.quorum.proofs.Refused.{value_of}
use Rattle.agreement.specs.declared.clocks.Clock.{Clock}
use Rattle.agreement.specs.declared.slips.Slip.{Slip}
use Rattle.agreement.specs.Calls.{Opens, Reads, no_slip}
use Rattle.agreement.specs.Promise.{Call, Leaves, Moment, Worked}
use Rattle.agreement.specs.Protocols.{Protocol}
use Rattle.agreement.specs.Slips.{slip_at}

-- a sequence that is f below n, and x from there on
abbrev pub onward : {A : Type 0} → ℕ → (ℕ → A) → A → ℕ → A
onward n f x t = cond (ltb t n) (f t) x

onward_below : {A : Type 0} (n : ℕ) (f : ℕ → A) (x : A) (t : ℕ) → t < n → onward n f x t ≡ f t
onward_below n f x t lt = cond-true (ltb t n) (f t) x (lt-ltb t n lt)

onward_past : {A : Type 0} (n : ℕ) (f : ℕ → A) (x : A) (t : ℕ) → n ≤ t → onward n f x t ≡ x
onward_past n f x t le = cond-false (ltb t n) (f t) x (le-ltb t n le)

module _ {V : Type 0} (p : Protocol V) (proposals : List V) where
  -- an opening, with no call yet
  pub begun : (found : List (Slip V)) (c : Clock) (table : List (Slip V)) (call : ℕ → Call V) → Opens p proposals found (Ok c) table → Worked p proposals 0 call (λ t. record { clock = c; table = table })
  begun found c table call opens = record { found = found; opens = opens; goes = λ t lt. absurd (omega arith) }

  -- one call more, on what the last one left
  pub one_more : (n : ℕ) (call : ℕ → Call V) (at : ℕ → Moment V) (x : Call V) (m : Moment V) → Worked p proposals n call at → Leaves p (at n) x m
      → Worked p proposals (suc n) (onward n call x) (onward (suc n) at m)
  one_more n call at x m w h = record {
    found = w.found;
    opens = subst (λ (a : Moment V). Opens p proposals w.found (Ok a.clock) a.table) (sym (onward_below (suc n) at m 0 (omega arith))) w.opens;
    goes = λ t lt. go t lt (cases_lt t n);
  }
    where
      leaves : (a b : Moment V) (c : Call V) (a' b' : Moment V) (c' : Call V) → a' ≡ a → c' ≡ c → b' ≡ b → Leaves p a c b → Leaves p a' c' b'
      leaves a b c a' b' c' e f g l =
          subst (λ (z : Moment V). Leaves p z c' b') (sym e) (subst (λ (z : Call V). Leaves p a z b') (sym f) (subst (Leaves p a c) (sym g) l))

      go : (t : ℕ) → t < suc n → (t < n) ⊎ (n ≤ t) → Leaves p (onward (suc n) at m t) (onward n call x t) (onward (suc n) at m (suc t))
      go t lt (inl l) =
          leaves (at t) (at (suc t)) (call t) _ _ _ (onward_below (suc n) at m t lt) (onward_below n call x t l) (onward_below (suc n) at m (suc t) (omega arith)) (w.goes t l)
      go t lt (inr g) =
          let same : t ≡ n = omega arith in
          leaves (at n) m x _ _ _ (onward_below (suc n) at m t lt ∙ ap at same) (onward_past n call x t g) (onward_past (suc n) at m (suc t) (omega arith)) h

-- what a read answered stood in the table
pub slip_read : {V : Type 0} (p : Protocol V) (table : List (Slip V)) (i : ℕ) (slip : Slip V) → Reads p table i (Ok slip) → slip_at table i ≡ Some slip
slip_read p table i slip h = value_of (no_slip p.rule.boxes (length table) i) (λ s. slip_at table i ≡ Some s) slip h
