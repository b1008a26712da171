-- Two readings of a run, from what the calls promise. Assumes nothing.
use Rattle.std.proofs.Common.{◌≡◌, ℕ, Bool, List, Some, None, Ok, Option, Result, refl, ◌∙◌, arith}
use Rattle.std.specs.Option.{option_zip}
use Rattle.agreement.specs.declared.clocks.Clock.{Clock}
use Rattle.agreement.specs.declared.faults.RunFault.{RunFault}
use Rattle.agreement.specs.declared.slips.Slip.{Slip}
use Rattle.agreement.specs.Calls.{Beats, Opens, Reads}
use Rattle.agreement.specs.Promise.{Call, Promise, beat, read}
use Rattle.agreement.specs.Protocols.{Protocol}
use Rattle.agreement.proofs.Entries.{field_at}
use Rattle.agreement.proofs.Working.{begun, one_more, slip_read}
use Rattle.trials.specs.Readings.{OneSetup}

module _ {V : Type 0} {before : V → V → Bool} (p : Protocol V) (promise : Promise before p) (proposals : List V) (blank : List (Slip V)) where
  -- the calls of the caller, with what each answered and left
  pub agree : (c d e : Clock) (t u v sheet s r : List (Slip V)) (first second : List ℕ) (a b : Result (Unit {0}) RunFault) (i j : ℕ) (x y : Slip V)
      → Opens p proposals blank (Ok c) t → Beats p c t sheet first a d u s → Reads p u i (Ok x) → Beats p d u s second b e v r → Reads p v j (Ok y)
      → OneSetup {F = RunFault} (Ok (option_zip x.held y.held))
  agree c d e t u v sheet s r first second a b i j x y opens one read_one two read_two = go x.held y.held refl refl
    where
      none : ℕ → Call V
      none k = read i (Ok x)

      go : (g h : Option V) → x.held ≡ g → y.held ≡ h → OneSetup {F = RunFault} (Ok (option_zip g h))
      go None h f k = tt
      go (Some n) None f k = tt
      go (Some n) (Some m) f k =
          let w_0 = begun p proposals blank c t none opens in
          let w_1 = one_more p proposals 0 _ _ (beat sheet first a s) (record { clock = d; table = u }) w_0 one in
          let w_2 = one_more p proposals 1 _ _ (read i (Ok x)) (record { clock = d; table = u }) w_1 (read_one, refl) in
          let w_3 = one_more p proposals 2 _ _ (beat s second b r) (record { clock = e; table = v }) w_2 two in
          let w_4 = one_more p proposals 3 _ _ (read j (Ok y)) (record { clock = e; table = v }) w_3 (read_two, refl) in
          (promise proposals 4 _ _ w_4).agreement.one 2 4 i j n m (omega arith) (omega arith)
          (field_at (λ z. z.held) u i x (slip_read p u i x read_one) ∙ f) (field_at (λ z. z.held) v j y (slip_read p v j y read_two) ∙ k)
