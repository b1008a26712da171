-- What an order of setups is, and orders made of others. Assumes nothing.
use Rattle.std.specs.Prelude.{◌≡◌, Bool, true, false, not, ◌&&◌, ◌||◌}

-- Nothing comes before itself; what comes before one comes before all that come after it; of two different ones, one comes before the other.
pub record Ordered {V : Type 0} (before : V → V → Bool) : Type 0 where
  pub irreflexive : (a : V) → before a a ≡ false
  pub transitive : (a b c : V) → before a b ≡ true → before b c ≡ true → before a c ≡ true
  pub total : (a b : V) → before a b ≡ false → before b a ≡ false → a ≡ b

-- the other way round
abbrev pub backwards : {V : Type 0} → (V → V → Bool) → V → V → Bool
backwards before a b = before b a

-- by the first parts, and where neither of these comes before the other, by the second
abbrev pub lexical : {A B : Type 0} → (A → A → Bool) → (B → B → Bool) → (A × B) → (A × B) → Bool
lexical p q x y = p x.0 y.0 || (not (p y.0 x.0) && q x.1 y.1)
