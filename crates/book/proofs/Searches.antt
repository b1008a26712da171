-- What `any` gives over a range, where the closure computes a test. Assumes nothing.
use Rattle.std.proofs.Common.{◌≡◌, ℕ, ◌-◌, Bool, ◌∙◌, refl, arith}
use denote.Param.Members.{Mut}
use Rattle.std.specs.Fn.{Called}
use Rattle.std.specs.Iterator.{ChecksAny}
use Rattle.std.proofs.iter.Yields.{nat_range_steps}
use Rattle.std.specs.declared.ops.Range.{Range}
use Rattle.std.proofs.lemmas.Iterator.{YieldsList-from_range}
use Rattle.std.proofs.lemmas.Iterator.Search.{any_from_yields_List}
use Rattle.book.specs.Pages.{some_row}
use Rattle.book.proofs.Rounds.{some_row_any}

-- `any` tells whether a number below m passes
pub some_row_found : {F : Type 0} {g : Mut F (ℕ × Unit {0}) Bool} {f : F} (u : Range ℕ) (test : ℕ → Bool) (m : ℕ) (r : Bool)
    → ChecksAny nat_range_steps g (record { start = 0; end = m }) f r u → ((x : ℕ) (b : Bool) (q : F) → Called g f (x, tt) b q → (q ≡ f) × (b ≡ test x)) → r ≡ some_row test m
some_row_found {F} {g} {f} u test m r ran computes =
    let all : m - 0 ≡ m = omega arith in
    any_from_yields_List {g = g} test u f r ran (YieldsList-from_range 0 m m refl all) computes ∙ some_row_any test m
