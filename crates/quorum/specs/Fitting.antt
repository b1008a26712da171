-- Sizes that fit keep the laws. Assumes nothing.
use Rattle.std.specs.Prelude.{◌≡◌, ℕ, ◌+◌, ◌*◌, ◌<◌, ◌≤◌, true, ◌&&◌, leb, nat_le, nat_lt}
use Rattle.std.proofs.Common.{arith}
use Rattle.std.proofs.lemmas.Bool.{and_parts, le-leb, leb-true, ltb-true}
use Rattle.quorum.specs.Families.{at_least, sizes}
use Rattle.quorum.specs.Making.{fit}
use Rattle.quorum.specs.Rules.{ClearLawful, Lawful, Roster}
use Rattle.quorum.specs.Laws.{Test, counted_clear, counted_lawful}

-- the condition on sizes, as an order of numbers
pub record Fit (n e t : ℕ) : Type 0 where
  pub enough : 2 * n < 2 * e + t
  pub less : e ≤ t
  pub within : t ≤ n

pub fit_parts : (n e t : ℕ) → fit n e t ≡ true → Fit n e t
fit_parts n e t h =
    let outer = and_parts (nat_lt (2 * n) (2 * e + t)) (nat_le e t && nat_le t n) h in
    let inner = and_parts (nat_le e t) (nat_le t n) outer.1 in
    record { enough = ltb-true (2 * n) (2 * e + t) outer.0; less = leb-true e t inner.0; within = leb-true t n inner.1 }

or_more : (n k : ℕ) → k ≤ n → Test n (leb k)
or_more n k le = record { more = λ i j lt h. le-leb k j (omega (arith, leb-true k i h)); all = le-leb k n le }

pub sizes_lawful : (n e t : ℕ) → Roster n → fit n e t ≡ true → Lawful (sizes n e)
sizes_lawful n e t sized h =
    let f = fit_parts n e t h in
    counted_lawful n (leb e) sized (or_more n e (omega arith)) (λ k g. omega (arith, leb-true e k g))

pub sizes_clear : (n e t : ℕ) → fit n e t ≡ true → ClearLawful (sizes n e) (at_least n t)
sizes_clear n e t h =
    let f = fit_parts n e t h in
    counted_clear n (leb e) (leb t) (or_more n t f.within)
    (λ i j k a b c. omega (arith, leb-true e i a, leb-true e j b, leb-true t k c))
    (λ k c. le-leb e k (omega (arith, leb-true t k c)))
