-- What a reader takes off its text. Assumes nothing.
use Rattle.std.proofs.Common.{◌≡◌, ℕ, ◌+◌, ◌≤◌, Bool, true, false, not, cond, leb, List, [], ◌∷◌, ◌++◌, length, drop, Some, None, Ok, Err, Option, sym, refl, ap, ◌∙◌, append_assoc, arith, length-append}
use Rattle.std.proofs.lemmas.Slice.Eq.{bytes_eq-Decides}
use Rattle.std.proofs.lemmas.List.{drop_at, drop-drop}
use Rattle.std.proofs.lemmas.Bool.{le-leb, cond-true, eqb-true}
use Rattle.std.specs.Str.{bytes_eq}
use Rattle.shift.specs.declared.classes.Class.TheVariants.{Equals, LineEnd}
use Rattle.shift.specs.declared.faults.Cause.TheVariants.{Long}
use Rattle.shift.specs.Classes.{is}
use Rattle.shift.specs.Entries.{of_line, key_and_value, rest_of, after}
use Rattle.shift.specs.Faults.{at_line}
use Rattle.shift.specs.Lines.{with_key}
use Rattle.shift.specs.Parts.{parted}
use Rattle.shift.proofs.Places.{joins}

-- the whole of a line that has a key and a value
line_by : (t k v : List ℕ) (o : Option (List ℕ × List ℕ)) → o ≡ parted (is LineEnd) t → of_line o ≡ Some (k, v) → t ≡ (k ++ 61 ∷ v) ++ 10 ∷ rest_of o
line_by t k v None e h = cc
line_by t k v (Some p) e h =
    let line = joins (is LineEnd) t p.0 p.1 (sym e) in
    let parts = joins (is Equals) p.0 k v h in
    let ten = eqb-true line.0 10 line.2 in
    let sign = eqb-true parts.0 61 parts.2 in
    line.1 ∙ ap (λ b. p.0 ++ b ∷ p.1) ten ∙ ap (λ l. l ++ 10 ∷ p.1) (parts.1 ∙ ap (λ b. k ++ b ∷ v) sign)

line_whole : (t k v : List ℕ) → Some (k, v) ≡ key_and_value t → t ≡ (k ++ 61 ∷ v) ++ 10 ∷ after t
line_whole t k v h = line_by t k v (parted (is LineEnd) t) refl (sym h)

past_line : (t k v : List ℕ) → Some (k, v) ≡ key_and_value t → drop (length k + length v + 2) t ≡ after t
past_line t k v h =
    let whole : t ≡ ((k ++ 61 ∷ v) ++ 10 ∷ []) ++ after t = line_whole t k v h ∙ sym (append_assoc (k ++ 61 ∷ v) (10 ∷ []) (after t)) in
    let long : length ((k ++ 61 ∷ v) ++ 10 ∷ []) ≡ length k + length v + 2 = omega (arith, length-append (k ++ 61 ∷ v) (10 ∷ []), length-append k (61 ∷ v)) in
    ap (drop (length k + length v + 2)) whole ∙ drop_at _ (after t) _ long

-- what is left after a line
module _ (text : List ℕ) (i : ℕ) (rest k v : List ℕ) (e : rest ≡ drop i text) (h : Some (k, v) ≡ key_and_value rest) where
  pub left_after : drop (i + (length k + length v + 2)) text ≡ after (drop i text)
  left_after = sym (drop-drop (length k + length v + 2) i text) ∙ past_line (drop i text) k v (h ∙ ap key_and_value e)

  pub moved : drop i text ≡ (k ++ 61 ∷ v) ++ 10 ∷ drop (i + (length k + length v + 2)) text
  moved = line_whole (drop i text) k v (h ∙ ap key_and_value e) ∙ ap (λ l. (k ++ 61 ∷ v) ++ 10 ∷ l) (sym left_after)

same : (t : Bool) → false ≡ not t → t ≡ true
same true h = refl
same false h = cc

module _ (key : List ℕ) (n : ℕ) (text rest left k v : List ℕ) (e : rest ≡ left) where
  pub taken : length text ≤ 32768 → Some (k, v) ≡ key_and_value rest → false ≡ not (bytes_eq k key) → Ok (k, v, record { line = n; column = length k + 2 }) ≡ cond (leb (length text) 32768) (with_key key n (key_and_value left)) (Err (at_line Long 1))
  taken short h s =
      let found : bytes_eq k key ≡ true = same (bytes_eq k key) s in
      let is : k ≡ key = (bytes_eq-Decides k key).0 found in
      let keyed : Ok (k, v, record { line = n; column = length k + 2 }) ≡ with_key key n (Some (k, v)) = rw (found, is) in
      keyed ∙ ap (with_key key n) (h ∙ ap key_and_value e) ∙ sym (cond-true _ _ _ (le-leb _ _ short))

-- what a line that is read takes off the text
pub ruleset reading = (left_after, moved, taken)
