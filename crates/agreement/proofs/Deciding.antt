-- Rounds of voting that meet both guards decide on one setup. Assumes nothing.
use Rattle.std.proofs.Common.{◌≡◌, ℕ, ◌<◌, ◌≤◌, ◌⊎◌, List, Some, Option, sym, subst, inl, inr, arith}
use Rattle.std.proofs.lemmas.Bool.{cases_lt}
use Rattle.quorum.specs.Rules.{Family, Lawful}
use Rattle.setup.specs.Rows.{entry}
use Rattle.book.specs.Voting.{Guards}
use Rattle.agreement.proofs.Forming.{one_formed}

module _ {V : Type 0} (f : Family) (law : Lawful f) (votes decisions : ℕ → List (Option V)) where
  -- what is decided in one round is what was decided in an earlier one
  earlier : (j k i m : ℕ) (v w : V) → j < k → Guards f votes j (votes j) (decisions j) → Guards f votes k (votes k) (decisions k)
      → entry (decisions j) i ≡ Some v → entry (decisions k) m ≡ Some w → w ≡ v
  earlier j k i m v w lt g h d e =
      let a = g.1 i v d in
      let b = h.1 m w e in
      let shared = law.shares a.0 b.0 a.1 b.1 in
      h.0 j lt a.0 shared.0 v w a.1 a.2 shared.1 (b.2 shared.0 shared.2)

  pub one_decision : (n : ℕ) → ((k : ℕ) → k < n → Guards f votes k (votes k) (decisions k))
      → (j k i m : ℕ) (v w : V) → j < n → k < n → entry (decisions j) i ≡ Some v → entry (decisions k) m ≡ Some w → v ≡ w
  one_decision n guards j k i m v w jn kn d e = go (cases_lt j k) (cases_lt k j)
    where
      go : (j < k) ⊎ (k ≤ j) → (k < j) ⊎ (j ≤ k) → v ≡ w
      go (inl lt) c = sym (earlier j k i m v w lt (guards j jn) (guards k kn) d e)
      go (inr le) (inl lt) = earlier k j m i w v lt (guards k kn) (guards j jn) e d
      go (inr le) (inr ge) =
          let eq : k ≡ j = omega arith in
          one_formed f law v w (votes j) ((guards j jn).1 i v d) ((guards j jn).1 m w (subst (λ (x : ℕ). entry (decisions x) m ≡ Some w) eq e))
