-- Orders made of lawful orders are lawful. Assumes nothing.
use Rattle.std.specs.Prelude.{◌≡◌, Bool, true, false, not, ◌&&◌, int_lt, nat_lt}
use Rattle.std.proofs.Common.{arith}
use Rattle.std.proofs.lemmas.Int.{ints}
use Rattle.std.proofs.lemmas.Bool.{or_parts, true≢false}
use Rattle.std.proofs.lemmas.Bool.Decides.{nat_tests}
use Rattle.setup.specs.Orders.{Ordered, backwards, lexical}

pub unsigned_ordered : Ordered nat_lt
unsigned_ordered = record {
  irreflexive = λ a. grind (arith, nat_tests);
  transitive = λ a b c p q. grind (arith, nat_tests);
  total = λ a b p q. grind (arith, nat_tests);
}

pub signed_ordered : Ordered int_lt
signed_ordered = record {
  irreflexive = λ a. grind (arith, ints);
  transitive = λ a b c p q. grind (arith, ints);
  total = λ a b p q. grind (arith, ints);
}

pub backwards_ordered : {V : Type 0} {before : V → V → Bool} → Ordered before → Ordered (backwards before)
backwards_ordered o = record {
  irreflexive = o.irreflexive;
  transitive = λ a b c p q. o.transitive c b a q p;
  total = λ a b p q. o.total a b q p;
}

-- an order of keys orders what they are keys of, where no two have one key
pub keyed_ordered : {V K : Type 0} {before : K → K → Bool} (key : V → K) → ((a b : V) → key a ≡ key b → a ≡ b) → Ordered before → Ordered (λ (a b : V). before (key a) (key b))
keyed_ordered key apart o = record {
  irreflexive = λ a. o.irreflexive (key a);
  transitive = λ a b c p q. o.transitive (key a) (key b) (key c) p q;
  total = λ a b p q. apart a b (o.total (key a) (key b) p q);
}

pub lexical_ordered : {A B : Type 0} {p : A → A → Bool} {q : B → B → Bool} → Ordered p → Ordered q → Ordered (lexical p q)
lexical_ordered {A} {B} {p} {q} o u = record {
  irreflexive = λ x. let f = o.irreflexive x.0 in let s = u.irreflexive x.1 in grind arith;
  transitive = λ x y z f g. grind (arith, o.irreflexive, o.transitive, o.total, u.transitive);
  total = λ x y f g.
      let a = or_parts (p x.0 y.0) (not (p y.0 x.0) && q x.1 y.1) f in
      let b = or_parts (p y.0 x.0) (not (p x.0 y.0) && q y.1 x.1) g in
      let e = o.total x.0 y.0 a.0 b.0 in
      let d = u.total x.1 y.1 (rest _ _ b.0 a.1) (rest _ _ a.0 b.1) in
      λ i. (e i, d i);
}
  where
    rest : (t r : Bool) → t ≡ false → (not t && r) ≡ false → r ≡ false
    rest true r e h = absurd (true≢false e)
    rest false r e h = h
