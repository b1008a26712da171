-- Two setups are the same exactly if they are equal. Assumes nothing.
use Rattle.std.proofs.Common.{◌≡◌, Bool, true, not, Some, None, Option, sym, ap, subst}
use Rattle.std.proofs.lemmas.Bool.{and_from, and_parts, false≢true, not_from_false, not-true}
use Rattle.setup.specs.Orders.{Ordered}
use Rattle.setup.specs.Rows.{is, same}

module _ {V : Type 0} {before : V → V → Bool} (o : Ordered before) where
  pub same_equal : (v w : V) → same before v w ≡ true → v ≡ w
  same_equal v w h =
      let neither = and_parts (not (before v w)) (not (before w v)) h in
      o.total v w (not-true (before v w) neither.0) (not-true (before w v) neither.1)

  pub equal_same : (v w : V) → v ≡ w → same before v w ≡ true
  equal_same v w e = subst (λ (u : V). same before v u ≡ true) e (and_from _ _ (not_from_false (before v v) (o.irreflexive v)) (not_from_false (before v v) (o.irreflexive v)))

  pub is_some : (v : V) (x : Option V) → is before v x ≡ true → x ≡ Some v
  is_some v None h = absurd (false≢true h)
  is_some v (Some w) h = ap {B = Option V} Some (sym (same_equal v w h))

  pub some_is : (v : V) (x : Option V) → x ≡ Some v → is before v x ≡ true
  some_is v x e = subst (λ (y : Option V). is before v y ≡ true) (sym e) (equal_same v v (λ _. v))
