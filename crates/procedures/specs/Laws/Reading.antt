-- Every setup of a new slip stood in a slip that it read: what the box had, and what is found in what it received. Assumes nothing.
use Rattle.std.specs.Prelude.{◌≡◌, ℕ, zero, suc, Bool, List, map, Some, None, Option, unwrap_or}
use Rattle.std.specs.Option.{option_map, option_or}
use Rattle.std.proofs.Common.{inl, inr, sym, refl, subst, ◌∙◌}
use Rattle.quorum.proofs.Somes.{some_is, some_none}
use Rattle.setup.specs.Orders.{Ordered}
use Rattle.setup.specs.Rows.{entry, first}
use Rattle.agreement.specs.declared.slips.Slip.{Slip}
use Rattle.agreement.specs.Laws.{Read}
use Rattle.agreement.specs.Slips.{Stands, setups_of_slip}
use Rattle.agreement.proofs.Entries.{at_held, at_own, field_from}
use Rattle.procedures.specs.Received.{own, received}
use Rattle.procedures.specs.Laws.Received.{first_stands, sent}

-- ---- what is so of a choice

-- where there is a setup, it is so
abbrev pub So : {V : Type 0} → (V → Type 0) → Option V → Type 0
So {V} P x = (v : V) → x ≡ Some v → P v

module _ {V : Type 0} (P : V → Type 0) where
  -- of none, of one of two, and of what one makes of another
  pub none_so : So P None
  none_so v e = absurd (some_none (sym e))

  pub or_so : (x y : Option V) → So P x → So P y → So P (option_or x y)
  or_so None y a b v e = b v e
  or_so (Some w) y a b v e = a v e

  pub map_so : {W : Type 0} (g : W → V) (x : Option W) → So (λ w. P (g w)) x → So P (option_map g x)
  map_so g None a v e = absurd (some_none (sym e))
  map_so g (Some w) a v e = subst P (some_is e) (a w refl)

  -- of a setup that there always is
  pub unwrap_so : (x : Option V) (d : V) → So P x → P d → P (unwrap_or x d)
  unwrap_so None d a b = b
  unwrap_so (Some w) d a b = a w refl

-- ---- what a new slip has

module _ {V : Type 0} (slip : Slip V) (s : ℕ) (table : List (Slip V)) where
  abbrev pub Reads : V → Type 0
  Reads = Read slip s table

  -- what the box had is read, as is what it stood for
  pub had : (i : ℕ) → So Reads (entry (setups_of_slip slip) i)
  had i v e = inl (i, e)

  pub had_own : Reads slip.own
  had_own = had at_own slip.own refl

  -- what stands in what was received is read, where the field is one of a slip's setups
  pub received_read : {W : Type 0} (field : Slip V → Option W) (w : W) (v : V) → ((x : Slip V) → field x ≡ Some w → Stands v (setups_of_slip x)) → Stands w (received field table s) → Reads v
  received_read field w v reads stood =
      let at = sent (map field table) s stood.0 w stood.1 in
      let from = field_from field table stood.0 w at.1 in
      inr (stood.0, from.0, at.0, from.1, reads from.0 from.2)

  -- and so is what is found there
  pub found_read : (field : Slip V → Option V) (i : ℕ) → ((x : Slip V) → entry (setups_of_slip x) i ≡ field x) → (x : Option V) → So (λ v. Stands v (received field table s)) x → So Reads x
  found_read field i is_field x stood v e = received_read field v v (λ y has_it. (i, is_field y ∙ has_it)) (stood v e)

  -- so is the smallest of what those that it heard stand for, and what it comes to stand for if it takes that, where there is one
  pub first_own_read : {before : V → V → Bool} → Ordered before → So Reads (first before (received own table s))
  first_own_read {before} o = found_read own at_own (λ x. refl) (first before (received own table s)) (first_stands o (received own table s))

  pub taken_read : {before : V → V → Bool} → Ordered before → Reads (unwrap_or (first before (received own table s)) slip.own)
  taken_read {before} o = unwrap_so Reads (first before (received own table s)) slip.own (first_own_read o) had_own

  -- every setup of a new slip is read, where that of each of its fields is, and held becomes news
  pub new_reads : (new : Slip V) → Reads new.own → So Reads new.pick → So Reads new.say → So Reads new.cast → So Reads new.news → new.held ≡ option_or new.news slip.held
      → So Reads (option_map (λ d. d.1) new.dated) → (v : V) → Stands v (setups_of_slip new) → Reads v
  new_reads new own pick say cast news follows dated v stood = go stood.0 stood.1
    where
      go : (i : ℕ) → entry (setups_of_slip new) i ≡ Some v → Reads v
      go zero e = subst Reads (some_is e) own
      go (suc zero) e = pick v e
      go (suc (suc zero)) e = say v e
      go (suc (suc (suc zero))) e = cast v e
      go (suc (suc (suc (suc zero)))) e = news v e
      go (suc (suc (suc (suc (suc zero))))) e = or_so Reads new.news slip.held news (had at_held) v (sym follows ∙ e)
      go (suc (suc (suc (suc (suc (suc zero)))))) e = dated v e
      go (suc (suc (suc (suc (suc (suc (suc i))))))) e = absurd (some_none (sym e))
