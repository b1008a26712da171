-- Checks in their order: the first that fails is the answer. Assumes nothing.
use Rattle.std.proofs.Common.{◌≡◌, Bool, true, false, Some, None, Ok, Err, Option, Result, IsErrAnd, sym, refl, ◌∙◌, subst}
use Rattle.std.specs.Option.{option_map}
use Rattle.quorum.specs.Refusals.{Answers, Does, either, unless}
use Rattle.quorum.proofs.Somes.{some_is, some_none}

-- ---- when there is no reason to decline

pub either_none : {F : Type 0} (a b : Option F) → either a b ≡ None → (a ≡ None) × (b ≡ None)
either_none None b e = (refl, e)
either_none (Some f) b e = absurd (some_none e)

pub unless_none : {F : Type 0} (test : Bool) (f : F) → unless test f ≡ None → test ≡ true
unless_none true f e = refl
unless_none false f e = absurd (some_none e)

pub mapped_none : {A B : Type 0} (f : A → B) (o : Option A) → option_map f o ≡ None → o ≡ None
mapped_none f None e = refl
mapped_none f (Some a) e = absurd (some_none e)

-- ---- what an answer says of the reason, and of what was done

pub answers_ok : {X F : Type 0} (reason : Option F) (P : X → Type 0) (x : X) → Answers reason P (Ok x) → reason ≡ None
answers_ok None P x h = refl
answers_ok (Some g) P x h = absurd h

pub does_ok : {X F : Type 0} (reason : Option F) (done : X → Type 0) (kept : Type 0) (x : X) → Does reason done kept (Ok x) → (reason ≡ None) × done x
does_ok None done kept x h = (refl, h)
does_ok (Some g) done kept x h = absurd h

pub does_err : {X F : Type 0} (reason : Option F) (done : X → Type 0) (kept : Type 0) (f : F) → Does reason done kept (Err f) → kept
does_err None done kept f h = absurd h
does_err (Some g) done kept f h = h.1

-- a call with no reason to decline it is done
pub does_none : {F : Type 0} (reason : Option F) (done : Unit {0} → Type 0) (kept : Type 0) (answer : Result (Unit {0}) F) → reason ≡ None → Does reason done kept answer → (answer ≡ Ok tt) × done tt
does_none {F} reason done kept answer e h = go answer (subst (λ (o : Option F). Does o done kept answer) e h)
  where
    go : (a : Result (Unit {0}) F) → Does None done kept a → (a ≡ Ok tt) × done tt
    go (Ok u) d = (refl, d)
    go (Err f) d = absurd d

-- what is known of the value of a call that was not declined
pub value_of : {X F : Type 0} (reason : Option F) (P : X → Type 0) (x : X) → Answers reason P (Ok x) → P x
value_of None P x h = h
value_of (Some g) P x h = absurd h

-- ---- a call that passes on by `?` what another call declined with

-- what is said of the answer passed on holds of its own
pub passed_on : {X F : Type 0} (P : Result X F → Type 0) (answer : Result X F) (f : F) → IsErrAnd answer (λ e. e ≡ f) → P (Err f) → P answer
passed_on {X} {F} P (Ok x) f e h = absurd e
passed_on {X} {F} P (Err g) f e h = subst (λ (x : F). P (Err x)) (sym e) h

-- it declines for the same reason
pub declined_does : {X Y F : Type 0} (reason : Option F) (P : X → Type 0) (done : Y → Type 0) (kept : Type 0) (answer : Result Y F) (f : F)
    → IsErrAnd answer (λ e. e ≡ f) → Answers reason P (Err f) → kept → Does reason done kept answer
declined_does None P done kept answer f e h k = absurd h
declined_does (Some g) P done kept (Ok y) f e h k = absurd e
declined_does (Some g) P done kept (Err x) f e h k = (e ∙ h, k)

-- ---- what holds of the fault of each check holds of the answer

module _ {F : Type 0} (P : F → Type 0) where
  abbrev pub Each : Option F → Type 0
  Each reason = (f : F) → reason ≡ Some f → P f

  pub each_either : (a b : Option F) → Each a → Each b → Each (either a b)
  each_either None b h k f e = k f e
  each_either (Some g) b h k f e = h f e

  pub each_unless : (test : Bool) (g : F) → P g → Each (unless test g)
  each_unless true g h f e = absurd (some_none (sym e))
  each_unless false g h f e = subst P (some_is e) h

  pub each_mapped : {A : Type 0} (make : A → F) (found : Option A) → ((a : A) → found ≡ Some a → P (make a)) → Each (option_map make found)
  each_mapped make None h f e = absurd (some_none (sym e))
  each_mapped make (Some a) h f e = subst P (some_is e) (h a refl)

  pub each_answered : {X : Type 0} (reason : Option F) (Q : X → Type 0) (f : F) → Each reason → Answers reason Q (Err f) → P f
  each_answered None Q f h d = absurd d
  each_answered (Some g) Q f h d = subst P (sym d) (h g refl)

  pub each_err : {X : Type 0} (reason : Option F) (done : X → Type 0) (kept : Type 0) (f : F) → Each reason → Does reason done kept (Err f) → P f
  each_err None done kept f h d = absurd d
  each_err (Some g) done kept f h d = subst P (sym d.0) (h g refl)
