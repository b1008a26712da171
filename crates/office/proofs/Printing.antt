-- An answer as it is printed, one thing after another. Assumes nothing.
use Rattle.std.proofs.Common.{◌≡◌, ℕ, List, [], ◌∷◌, ◌++◌, Some, None, codes, drop, refl, sym, ap, ◌∙◌, append_assoc, append-nil}
use Rattle.std.proofs.Output.{has_written_append, has_written_of_eq}
use Rattle.std.specs.declared.fmt.Formatter.{Formatter}
use Rattle.std.specs.Fmt.{HasWritten, IsPlainFormatter}
use Rattle.office.specs.Printed.{lines_of, printed}
use Rattle.office.specs.Shown.{Shown, first_of}

-- what is written so far, with what comes, is the whole
pub record PartWritten {W : Type 0} (took : W → List ℕ → W → Type 0) (start now : Formatter W) (coming all : List Shown) : Type 0 where
  pub so_far : List ℕ
  pub wrote : HasWritten took start so_far now
  pub whole : so_far ++ printed coming ≡ printed all

-- before the first one nothing is written
pub begins : {W : Type 0} (took : W → List ℕ → W → Type 0) (f : Formatter W) (coming all : List Shown) → coming ≡ all → IsPlainFormatter f → PartWritten took f f coming all
begins took f coming all is plain = record { so_far = []; wrote = record { wrote = record { parts = []; calls = refl; whole = refl }; plain = plain }; whole = ap printed is }

module _ {W : Type 0} (took : W → List ℕ → W → Type 0) (start now : Formatter W) (all : List Shown) where
  -- one is written, and the answer goes on
  pub goes_on : (coming : List Shown) → PartWritten took start now coming all → (mid next : Formatter W) (e : Shown) (rest : List Shown) → Some e ≡ first_of coming → rest ≡ drop 1 coming → HasWritten took now (lines_of e) mid
      → HasWritten took mid (codes "\n") next → PartWritten took start next rest all
  goes_on [] h mid next e rest is goes w v = cc
  goes_on (x ∷ xs) h mid next e rest is goes w v = record {
    so_far = h.so_far ++ (lines_of e ++ 10 ∷ []);
    wrote = has_written_append took start h.so_far now (lines_of e ++ 10 ∷ []) next h.wrote (has_written_append took now (lines_of e) mid (codes "\n") next w v);
    whole = append_assoc h.so_far (lines_of e ++ 10 ∷ []) (printed rest) ∙ ap (λ c. h.so_far ++ printed c) comes ∙ h.whole;
  }
    where
      comes : e ∷ rest ≡ x ∷ xs
      comes = cc

  -- nothing is left
  pub ends : (coming : List Shown) → PartWritten took start now coming all → None ≡ first_of coming → HasWritten took start (printed all) now
  ends [] h is = has_written_of_eq took start _ _ now (sym (append-nil h.so_far) ∙ h.whole) h.wrote
  ends (x ∷ xs) h is = cc

-- what the loop over an answer takes
pub ruleset turns = (begins, goes_on, ends)
