-- The kinds of setup that come with the library, by their orders. Assumes nothing.
use Rattle.std.specs.Prelude.{ℕ, Bool, ℤ, int_lt, nat_lt}
use Rattle.setup.specs.declared.cards.Card.{Card}
use Rattle.setup.specs.Orders.{backwards, lexical}

-- the smaller number first
abbrev pub number_before : ℕ → ℕ → Bool
number_before = nat_lt

-- the smaller ring first, then the smaller chainage, then the smaller station
abbrev pub card_key : Card → ℕ × (ℤ × ℕ)
card_key c = (c.ring, (c.chainage, c.station))

abbrev pub card_before : Card → Card → Bool
card_before a b = lexical nat_lt (lexical int_lt nat_lt) (card_key a) (card_key b)

-- the greater phase first, and at one phase the setup that comes first
abbrev pub dated_before : {V : Type 0} → (V → V → Bool) → (ℕ × V) → (ℕ × V) → Bool
dated_before before = lexical (backwards nat_lt) before
