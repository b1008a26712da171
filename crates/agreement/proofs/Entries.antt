-- What stands at a box of a table. Assumes nothing.
use Rattle.std.proofs.Common.{◌≡◌, ℕ, zero, suc, ◌+◌, ◌<◌, List, [], ◌∷◌, map, length, get_or, Some, None, Option, sym, refl, ap, ◌∙◌, subst, add-zero, arith}
use Rattle.std.specs.Option.{option_and_then}
use Rattle.std.proofs.lemmas.List.{get_or-map}
use Rattle.quorum.proofs.Somes.{some_is, some_none}
use Rattle.setup.specs.Rows.{entry}
use Rattle.agreement.specs.declared.slips.Slip.{Slip}
use Rattle.agreement.specs.Inside.{At}
use Rattle.agreement.specs.Protocols.{Protocol, beaten, numbered}
use Rattle.agreement.specs.Slips.{opened, opening, slip_at}

-- where a slip's setups have each of its fields
abbrev pub at_own : ℕ
at_own = 0

abbrev pub at_pick : ℕ
at_pick = 1

abbrev pub at_say : ℕ
at_say = 2

abbrev pub at_held : ℕ
at_held = 5

abbrev pub at_dated : ℕ
at_dated = 6

-- an item at place i
abbrev pub item : {A : Type 0} → List A → ℕ → Option A
item xs i = entry (map Some xs) i

-- where there is one, the place is within the list
pub item_inside : {A : Type 0} (xs : List A) (i : ℕ) (x : A) → item xs i ≡ Some x → i < length xs
item_inside [] i x e = absurd (some_none (sym e))
item_inside (y ∷ xs) zero x e = omega arith
item_inside (y ∷ xs) (suc i) x e = omega (arith, item_inside xs i x e)

-- what is read at a place within the list stands there, and the other way round
pub item_read : {A : Type 0} (xs : List A) (i : ℕ) (x : A) → i < length xs → x ≡ get_or xs i x → item xs i ≡ Some x
item_read {A} xs i x lt is = get_or-map Some xs i x None lt ∙ ap {B = Option A} Some (sym is)

pub item_at : {A : Type 0} (xs : List A) (i : ℕ) (x : A) → item xs i ≡ Some x → At xs i x
item_at [] i x e = absurd (some_none (sym e))
item_at (y ∷ xs) zero x e = record { inside = omega arith; is = some_is e }
item_at (y ∷ xs) (suc i) x e = let r = item_at xs i x e in record { inside = omega (arith, r.inside); is = r.is }

-- where the list is long enough there is one
pub item_there : {A : Type 0} (xs : List A) (i : ℕ) → i < length xs → (x : A) × (item xs i ≡ Some x)
item_there [] i lt = absurd (omega arith)
item_there (x ∷ xs) zero lt = (x, refl)
item_there (x ∷ xs) (suc i) lt = item_there xs i (omega arith)

-- what f reads depends on the item only
field_of : {A B : Type 0} (f : A → Option B) (xs : List A) (i : ℕ) → entry (map f xs) i ≡ option_and_then f (item xs i)
field_of f [] i = refl
field_of f (x ∷ xs) zero = refl
field_of f (x ∷ xs) (suc i) = field_of f xs i

pub field_alike : {A B : Type 0} (f : A → Option B) (xs ys : List A) (i : ℕ) → item xs i ≡ item ys i → entry (map f xs) i ≡ entry (map f ys) i
field_alike f xs ys i e = field_of f xs i ∙ ap (option_and_then f) e ∙ sym (field_of f ys i)

-- what f reads of the item
pub field_at : {A B : Type 0} (f : A → Option B) (xs : List A) (i : ℕ) (x : A) → item xs i ≡ Some x → entry (map f xs) i ≡ f x
field_at f [] i x e = absurd (some_none (sym e))
field_at f (y ∷ xs) zero x e = ap f (some_is e)
field_at f (y ∷ xs) (suc i) x e = field_at f xs i x e

-- where f reads something there is an item that it is read of
pub field_from : {A B : Type 0} (f : A → Option B) (xs : List A) (i : ℕ) (b : B) → entry (map f xs) i ≡ Some b → (x : A) × (item xs i ≡ Some x) × (f x ≡ Some b)
field_from f [] i b e = absurd (some_none (sym e))
field_from f (y ∷ xs) zero b e = (y, refl, e)
field_from f (y ∷ xs) (suc i) b e = field_from f xs i b e

-- what stands at place i is made of what stood there
numbered_from : {A B : Type 0} (f : ℕ → A → B) (k i : ℕ) (xs : List A) (y : B) → item (numbered f k xs) i ≡ Some y → (x : A) × (item xs i ≡ Some x) × (y ≡ f (k + i) x)
numbered_from f k i [] y e = absurd (some_none (sym e))
numbered_from f k zero (x ∷ xs) y e = (x, refl, sym (some_is e) ∙ ap (λ (j : ℕ). f j x) (sym (add-zero k)))
numbered_from f k (suc i) (x ∷ xs) y e =
    let r = numbered_from f (k + 1) i xs y e in
    let next : k + 1 + i ≡ k + suc i = omega arith in
    (r.0, r.1, r.2 ∙ ap (λ (j : ℕ). f j r.0) next)

numbered_item : {A B : Type 0} (f : ℕ → A → B) (k i : ℕ) (xs : List A) (x : A) → item xs i ≡ Some x → item (numbered f k xs) i ≡ Some (f (k + i) x)
numbered_item f k i [] x e = absurd (some_none (sym e))
numbered_item {A} {B} f k zero (y ∷ xs) x e = ap {B = Option B} Some (ap (f k) (some_is e) ∙ ap (λ (j : ℕ). f j x) (sym (add-zero k)))
numbered_item {A} {B} f k (suc i) (y ∷ xs) x e =
    let next : k + 1 + i ≡ k + suc i = omega arith in
    numbered_item f (k + 1) i xs x e ∙ ap {B = Option B} (λ (j : ℕ). Some (f j x)) next

numbered_length : {A B : Type 0} (f : ℕ → A → B) (k : ℕ) (xs : List A) → length (numbered f k xs) ≡ length xs
numbered_length f k [] = refl
numbered_length f k (x ∷ xs) = ap suc (numbered_length f (k + 1) xs)

module _ {V : Type 0} (p : Protocol V) (k b : ℕ) (heard : List ℕ) (table : List (Slip V)) where
  pub beaten_length : length (beaten p k b heard table) ≡ length table
  beaten_length = numbered_length (λ i s. p.next k b i s (get_or heard i 0) table) 0 table

  -- the slip of a box after a beat, from that before it
  pub beaten_from : (i : ℕ) (s : Slip V) → slip_at (beaten p k b heard table) i ≡ Some s → (old : Slip V) × (slip_at table i ≡ Some old) × (s ≡ p.next k b i old (get_or heard i 0) table)
  beaten_from i s e =
      let r = numbered_from (λ j o. p.next k b j o (get_or heard j 0) table) 0 i table s e in
      let all : 0 + i ≡ i = omega arith in
      (r.0, r.1, r.2 ∙ ap (λ (j : ℕ). p.next k b j r.0 (get_or heard j 0) table) all)

  pub beaten_item : (i : ℕ) (old : Slip V) → slip_at table i ≡ Some old → slip_at (beaten p k b heard table) i ≡ Some (p.next k b i old (get_or heard i 0) table)
  beaten_item i old e =
      let all : 0 + i ≡ i = omega arith in
      numbered_item (λ j o. p.next k b j o (get_or heard j 0) table) 0 i table old e ∙ ap {B = Option (Slip V)} (λ (j : ℕ). Some (p.next k b j old (get_or heard j 0) table)) all

  -- the new slip of a box, made from its slip in the table, stands at its place of the new table
  pub beaten_at : (i : ℕ) (old new : Slip V) → i < length table → old ≡ get_or table i old → new ≡ p.next k b i old (get_or heard i 0) table → At (beaten p k b heard table) i new
  beaten_at i old new lt is made =
      subst (At (beaten p k b heard table) i) (sym made) (item_at (beaten p k b heard table) i (p.next k b i old (get_or heard i 0) table) (beaten_item i old (item_read table i old lt is)))

-- the slip of a box at the opening is that of its proposal
pub opened_from : {V : Type 0} (proposals : List V) (i : ℕ) (s : Slip V) → slip_at (opened proposals) i ≡ Some s → (v : V) × (item proposals i ≡ Some v) × (s ≡ opening v)
opened_from [] i s e = absurd (some_none (sym e))
opened_from (v ∷ vs) zero s e = (v, refl, sym (some_is e))
opened_from (v ∷ vs) (suc i) s e = opened_from vs i s e

opened_item : {V : Type 0} (proposals : List V) (i : ℕ) (v : V) → item proposals i ≡ Some v → slip_at (opened proposals) i ≡ Some (opening v)
opened_item [] i v e = absurd (some_none (sym e))
opened_item {V} (w ∷ vs) zero v e = ap {B = Option (Slip V)} (λ (x : V). Some (opening x)) (some_is e)
opened_item (w ∷ vs) (suc i) v e = opened_item vs i v e

pub opened_at : {V : Type 0} (proposals : List V) (i : ℕ) (v : V) (slip : Slip V) → i < length proposals → v ≡ get_or proposals i v → slip ≡ opening v → At (opened proposals) i slip
opened_at proposals i v slip lt is first = subst (At (opened proposals) i) (sym first) (item_at (opened proposals) i (opening v) (opened_item proposals i v (item_read proposals i v lt is)))
