-- Once a quorum has said a setup in a phase, no box says another in a later one: of phases in which a box picks the setup of the latest vote that it hears of, row by row. Assumes nothing.
use Rattle.std.specs.Prelude.{◌≡◌, ℕ, zero, suc, ◌<◌, ◌≤◌, true, ◌⊎◌, List, Some, None, Option}
use Rattle.std.specs.Option.{option_map, option_or}
use Rattle.std.proofs.Common.{inl, inr, sym, ap, ◌∙◌, refl, subst, arith}
use Rattle.quorum.specs.Rules.{Family, Lawful as RuleLawful}
use Rattle.quorum.specs.Sets.{has}
use Rattle.quorum.proofs.Somes.{some_is}
use Rattle.setup.specs.Rows.{entry}
use Rattle.book.specs.Voting.{Loyal, Unanimous}
use Rattle.agreement.specs.Slips.{Stands}
use Rattle.agreement.proofs.Every.{from_then}
use Rattle.agreement.proofs.Forming.{formed_stands}

-- the dated vote of box i is for v, of phase r or a later one
abbrev pub Late : {V : Type 0} → ℕ → V → List (Option (ℕ × V)) → ℕ → Type 0
Late r v votes i = (a : ℕ) × (r ≤ a) × (entry votes i ≡ Some (a, v))

-- no box of the set has a dated vote that is later than all those for w
abbrev pub NoneLater : {V : Type 0} → ℕ → V → List (Option (ℕ × V)) → Type 0
NoneLater {V} s w votes = (j r : ℕ) (v : V) → has s j ≡ true → entry votes j ≡ Some (r, v) → (i : ℕ) × Late r w votes i

-- box i said w
abbrev pub Said : {V : Type 0} → V → List (Option V) → ℕ → Type 0
Said w says i = entry says i ≡ Some w

-- the dated vote of a box after phase k: for what it said in it, and else the one that it had
abbrev pub redated : {V : Type 0} → ℕ → Option V → Option (ℕ × V) → Option (ℕ × V)
redated k said old = option_or (option_map (λ w. (k, w)) said) old

-- What phase k makes of the dated votes that it finds: the picks of its beat 0, the says of its beat 1, and the dated votes that it leaves.
pub record Phase {V : Type 0} (f : Family) (k : ℕ) (found : List (Option (ℕ × V))) (picks says : List (Option V)) (left : List (Option (ℕ × V))) : Type 0 where
  -- a box that picks w heard a quorum, and no dated vote there is later than all those for w
  pub picked : (i : ℕ) (w : V) → entry picks i ≡ Some w → (s : ℕ) × (f.quorum s ≡ true) × NoneLater s w found
  -- what a box says was picked, and no two boxes say different setups
  pub said : (i : ℕ) (w : V) → Said w says i → Stands w picks
  pub one_say : (i j : ℕ) (v w : V) → Said v says i → Said w says j → v ≡ w
  -- what it says is its dated vote then, and where it says nothing it keeps the one that it had
  pub votes : (i : ℕ) → entry left i ≡ redated k (entry says i) (entry found i)

-- every dated vote is of a phase before phase k
abbrev pub Past : {V : Type 0} → ℕ → List (Option (ℕ × V)) → Type 0
Past {V} k votes = (i : ℕ) (d : ℕ × V) → entry votes i ≡ Some d → d.0 < k

-- What is so of the dated votes once all boxes of q have said v in phase r: each of them has one for v of phase r or later, and no box has one so late for another setup.
pub record Chosen {V : Type 0} (r : ℕ) (v : V) (q : ℕ) (votes : List (Option (ℕ × V))) : Type 0 where
  pub each : (i : ℕ) → has q i ≡ true → Late r v votes i
  pub only : (i : ℕ) (w : V) → Late r w votes i → w ≡ v

module _ {V : Type 0} (f : Family) (law : RuleLawful f) where
  -- ---- one phase

  module _ {k : ℕ} {found : List (Option (ℕ × V))} {picks says : List (Option V)} {left : List (Option (ℕ × V))} (phase : Phase f k found picks says left) where
    -- a box that says w has a dated vote for it then
    voted : (i : ℕ) (w : V) → Said w says i → entry left i ≡ Some (k, w)
    voted i w e = phase.votes i ∙ ap (λ (r : Option V). redated k r (entry found i)) e

    -- and a dated vote that it leaves is for what the box says, or is the one that it had
    new_or_old : (i : ℕ) (d : ℕ × V) → entry left i ≡ Some d → ((d.0 ≡ k) × Said d.1 says i) ⊎ (entry found i ≡ Some d)
    new_or_old i d e = go (entry says i) refl (sym (phase.votes i) ∙ e)
      where
        go : (r : Option V) → entry says i ≡ r → redated k r (entry found i) ≡ Some d → ((d.0 ≡ k) × Said d.1 says i) ⊎ (entry found i ≡ Some d)
        go (Some w) is there = let same = some_is there in inl (sym (ap (λ (x : ℕ × V). x.0) same), is ∙ ap {B = Option V} (λ (x : ℕ × V). Some x.1) same)
        go None is there = inr there

    -- the dated votes that it leaves are of this phase or an earlier one
    past_next : Past k found → Past (suc k) left
    past_next past i d e = go (new_or_old i d e)
      where
        go : ((d.0 ≡ k) × Said d.1 says i) ⊎ (entry found i ≡ Some d) → d.0 < suc k
        go (inl new) = omega (arith, new.0)
        go (inr old) = omega (arith, past i d old)

    -- where a quorum says a setup it is chosen
    chosen_now : (v : V) (q : ℕ) → Past k found → f.quorum q ≡ true → Unanimous q v says → Chosen k v q left
    chosen_now v q past quorum all =
        record { each = λ i member. (k, omega arith, voted i v (all i member)); only = λ i w late. go i w late.0 late.1 (new_or_old i (late.0, w) late.2) }
      where
        go : (i : ℕ) (w : V) (a : ℕ) → k ≤ a → ((a ≡ k) × Said w says i) ⊎ (entry found i ≡ Some (a, w)) → w ≡ v
        go i w a le (inl new) = let there = formed_stands f law v says (q, quorum, all) in phase.one_say i there.0 w v new.1 there.1
        go i w a le (inr old) = absurd (omega (arith, past i (a, w) old))

    module _ {r : ℕ} {v : V} {q : ℕ} (quorum : f.quorum q ≡ true) (chosen : Chosen r v q found) where
      -- once it is chosen no box picks another
      chosen_pick : (i : ℕ) (w : V) → entry picks i ≡ Some w → w ≡ v
      chosen_pick i w e =
          let from = phase.picked i w e in
          let at = law.shares q from.0 quorum from.1 in
          let vote = chosen.each at.0 at.1 in
          let later = from.2 at.0 vote.0 v at.2 vote.2 in
          chosen.only later.0 w (later.1.0, omega (arith, vote.1, later.1.1), later.1.2)

      -- nor says another
      chosen_say : (i : ℕ) (w : V) → Said w says i → w ≡ v
      chosen_say i w e = let there = phase.said i w e in chosen_pick there.0 w there.1

      -- so it stays chosen
      chosen_next : r ≤ k → Chosen r v q left
      chosen_next le = record { each = λ i member. each i (chosen.each i member); only = λ i w late. only i w late.0 late.1 (new_or_old i (late.0, w) late.2) }
        where
          each : (i : ℕ) → Late r v found i → Late r v left i
          each i vote = go (entry says i) refl
            where
              go : (x : Option V) → entry says i ≡ x → Late r v left i
              go (Some w) is = (k, le, voted i v (subst (λ (x : V). Said x says i) (chosen_say i w is) is))
              go None is = (vote.0, vote.1, phase.votes i ∙ ap (λ (x : Option V). redated k x (entry found i)) is ∙ vote.2)

          only : (i : ℕ) (w : V) (a : ℕ) → r ≤ a → ((a ≡ k) × Said w says i) ⊎ (entry found i ≡ Some (a, w)) → w ≡ v
          only i w a late (inl new) = chosen_say i w new.1
          only i w a late (inr old) = chosen.only i w (a, late, old)

  -- ---- a run of phases

  module _ (votes : ℕ → List (Option (ℕ × V))) (picks says : ℕ → List (Option V)) (phases : (k : ℕ) → Phase f k (votes k) (picks k) (says k) (votes (suc k))) (fresh : Past 0 (votes 0)) where
    -- every dated vote that a phase finds is of an earlier one
    past : (k : ℕ) → Past k (votes k)
    past zero = fresh
    past (suc k) = past_next (phases k) (past k)

    -- what a quorum said in phase r is chosen when any later phase begins
    chosen : (r : ℕ) (v : V) (q : ℕ) → f.quorum q ≡ true → Unanimous q v (says r) → (k : ℕ) → r < k → Chosen r v q (votes k)
    chosen r v q quorum all k lt =
        from_then (λ (j : ℕ). Chosen r v q (votes j)) r k (chosen_now (phases r) v q (past r) quorum all) (λ j after early so. chosen_next (phases j) quorum so (omega arith)) k lt (omega arith)

    -- so no box of a quorum that said v says another setup in a later phase
    pub said_loyal : (r k : ℕ) → r < k → Loyal f (says r) (says k)
    said_loyal r k lt q i v w quorum all member e = chosen_say (phases k) quorum (chosen r v q quorum all k lt) i w e
