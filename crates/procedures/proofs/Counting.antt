-- The search for the setup that most sent: what is counted, turn by turn, and what it comes to. Assumes nothing.
use Rattle.std.proofs.Common.{◌≡◌, ℕ, ◌^◌, ◌<◌, Bool, true, false, cond, List, map, Some, None, Option, bit_or, sym, refl, ap, ◌∙◌, subst}
use Rattle.quorum.specs.Sets.{count}
use Rattle.quorum.specs.Walking.{Lowest, without}
use Rattle.quorum.proofs.Somes.{some_is, some_none}
use Rattle.setup.specs.Kinds.{dated_before}
use Rattle.setup.specs.Orders.{Ordered}
use Rattle.setup.specs.Rows.{among, boxes_with, entry, first, sooner}
use Rattle.setup.proofs.Searching.{Least, chain, least, least_one, one_way}
use Rattle.agreement.specs.Slips.{Stands}
use Rattle.procedures.specs.Laws.Received.{counted_entry, dates}
use Rattle.procedures.specs.Received.{counted}
use Rattle.procedures.proofs.Trying.{Seen, all_seen, all_senders, box_skipped, fresh_sent, not_tried, nothing_seen, setup_tried, untried}

module _ {V : Type 0} {before : V → V → Bool} (o : Ordered before) where
  -- the pair does not come before the best so far
  abbrev pub Behind : ℕ × V → Option (ℕ × V) → Type 0
  Behind q None = ⊥
  Behind q (Some p) = dated_before before q p ≡ false

  behind_new : (p : ℕ × V) (most : Option (ℕ × V)) → Behind p (sooner (dated_before before) most (Some p))
  behind_new p None = (dates o).irreflexive p
  behind_new p (Some a) = go (dated_before before p a) refl
    where
      go : (b : Bool) → dated_before before p a ≡ b → dated_before before p (cond b p a) ≡ false
      go true h = (dates o).irreflexive p
      go false h = h

  behind_old : (q p : ℕ × V) (most : Option (ℕ × V)) → Behind q most → Behind q (sooner (dated_before before) most (Some p))
  behind_old q p None h = absurd h
  behind_old q p (Some a) h = go (dated_before before p a) refl
    where
      go : (b : Bool) → dated_before before p a ≡ b → dated_before before q (cond b p a) ≡ false
      go true e = chain (dates o) q a p h (one_way (dates o) p a e)
      go false e = h

  abbrev pub pairs : List (Option V) → List (Option (ℕ × V))
  pairs row = map (counted before row) row

  -- box m did not send a better one than the best so far
  abbrev pub NoBetter : List (Option V) → Option (ℕ × V) → ℕ → Type 0
  NoBetter row most m = (q : ℕ × V) → entry (pairs row) m ≡ Some q → Behind q most

  module _ (row : List (Option V)) (heard : ℕ) where
    abbrev r : List (Option V)
    r = among row heard

    abbrev D : (ℕ × V) → (ℕ × V) → Bool
    D = dated_before before

    -- the best so far stands there, and of all that was seen no box sent a better one
    pub record Counted (left done : ℕ) (most : Option (ℕ × V)) : Type 0 where
      pub stood : (p : ℕ × V) → most ≡ Some p → Stands p (pairs r)
      pub seen : Seen row heard (NoBetter r most) left done

    silent : (most : Option (ℕ × V)) (m : ℕ) → entry r m ≡ None → NoBetter r most m
    silent most m none q f = absurd (some_none (sym f ∙ counted_entry before r m ∙ ap (counted before r) none))

    pub nothing_counted : Counted heard 0 None
    nothing_counted = record { stood = λ p e. absurd (some_none (sym e)); seen = nothing_seen row heard (NoBetter r None) (silent None) }

    module _ (left t i done : ℕ) (low : Lowest left i × (t ≡ without left i)) (y : Option V) (fresh : y ≡ untried done i (entry row i)) (most : Option (ℕ × V)) where
      pub turn_keeps : y ≡ None → Counted left done most → Counted t done most
      turn_keeps none c = record { stood = c.stood; seen = box_skipped row heard left t i done low (NoBetter r most) y fresh none (silent most i) c.seen }

      pub turn_counts : (v : V) (senders k next : ℕ) (best : Option (ℕ × V)) → heard < 2 ^ 32 → done < 2 ^ 32 → y ≡ Some v → senders ≡ boxes_with before v (among row (not_tried heard done)) → k ≡ count senders → best ≡ sooner D most (Some (k, v)) → next ≡ bit_or done senders
          → Counted left done most → Counted t next best
      turn_counts v senders k next best few fits e found size better joins c =
          subst (Counted t next) (sym (better ∙ ap (λ (n : ℕ). sooner D most (Some (n, v))) is)) (record {
            stood = stood most c.stood;
            seen = setup_tried row heard left t i done low o (NoBetter r most) (NoBetter r (sooner D most (Some p))) y v senders next fresh e all joins (λ m old q f. behind_old q p most (old q f)) behind_it c.seen;
          })
        where
          p : ℕ × V
          p = (count (boxes_with before v r), v)

          all : senders ≡ boxes_with before v r
          all = found ∙ all_senders row heard left t i done low o (NoBetter r most) y v fresh e few fits c.seen

          is : k ≡ count (boxes_with before v r)
          is = size ∙ ap count all

          sent : entry r i ≡ Some v
          sent = (fresh_sent row heard left t i done low c.seen.part y v fresh e).0

          -- the pair of a sender of v
          pair : (m : ℕ) → entry r m ≡ Some v → entry (pairs r) m ≡ Some p
          pair m f = counted_entry before r m ∙ ap (counted before r) f

          behind_it : (m : ℕ) → entry r m ≡ Some v → NoBetter r (sooner D most (Some p)) m
          behind_it m there q f = subst (λ (y : ℕ × V). Behind y (sooner D most (Some p))) (some_is (sym (pair m there) ∙ f)) (behind_new p most)

          stood : (m : Option (ℕ × V)) → ((a : ℕ × V) → m ≡ Some a → Stands a (pairs r)) → (b : ℕ × V) → sooner D m (Some p) ≡ Some b → Stands b (pairs r)
          stood None old b f = (i, pair i (sent) ∙ f)
          stood (Some a) old b f = pick (D p a) f
            where
              pick : (t : Bool) → ◌≡◌ {A = Option (ℕ × V)} (Some (cond t p a)) (Some b) → Stands b (pairs r)
              pick true f = (i, pair i (sent) ∙ f)
              pick false f = old b f

    pub all_counted : (left done : ℕ) (most : Option (ℕ × V)) → left ≡ 0 → Counted left done most → most ≡ first D (pairs r)
    all_counted left done most none c = least_one (dates o) (pairs r) most _ (go most refl c.stood (all_seen row heard (NoBetter r most) left done none c.seen)) (least (dates o) (pairs r))
      where
        go : (x : Option (ℕ × V)) → most ≡ x → ((p : ℕ × V) → most ≡ Some p → Stands p (pairs r)) → ((m : ℕ) → NoBetter r most m) → Least (dates o) (pairs r) x
        go None e stood behind = λ m. nothing m (entry (pairs r) m) refl
          where
            nothing : (m : ℕ) (y : Option (ℕ × V)) → entry (pairs r) m ≡ y → y ≡ None
            nothing m None f = refl
            nothing m (Some q) f = absurd (subst (Behind q) e (behind m q f))
        go (Some p) e stood behind = (stood p e, λ m q f. subst (Behind q) e (behind m q f))
