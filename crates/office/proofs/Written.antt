-- A row as it is printed, one entry at a time. Assumes nothing.
use Rattle.std.proofs.Common.{◌≡◌, ℕ, ◌+◌, ◌<◌, ◌≤◌, List, [], ◌∷◌, ◌++◌, length, get_or, take, Option, None, codes, sym, ap, ◌∙◌}
use Rattle.std.proofs.Output.{has_written_append, has_written_of_eq}
use Rattle.std.proofs.lemmas.List.{take_more, take_all, flat_map_more}
use Rattle.std.specs.declared.fmt.Formatter.{Formatter}
use Rattle.std.specs.Fmt.{HasWritten}
use Rattle.std.specs.List.{flat_map}
use Rattle.office.specs.Printed.{cell_text, row_text}

-- the entries, each after a comma
abbrev pub after_commas : List (Option ℕ) → List ℕ
after_commas xs = flat_map (λ x. codes "," ++ cell_text x) xs

one_more : (xs : List (Option ℕ)) (i : ℕ) → i < length xs → after_commas (take i xs) ++ (codes "," ++ cell_text (get_or xs i None)) ≡ after_commas (take (i + 1) xs)
one_more xs i h = flat_map_more (λ x. codes "," ++ cell_text x) [] (take i xs) (get_or xs i None) ∙ ap after_commas (sym (take_more xs i None h))

all_written : (all xs : List (Option ℕ)) (x : Option ℕ) (i : ℕ) → all ≡ x ∷ xs → length xs ≤ i → cell_text x ++ after_commas (take i xs) ≡ row_text all
all_written all xs x i e h = ap (λ l. cell_text x ++ after_commas l) (take_all i xs h) ∙ ap row_text (sym e)

module _ {W : Type 0} (took : W → List ℕ → W → Type 0) (f g h : Formatter W) (xs : List (Option ℕ)) (i : ℕ) where
  pub goes_on : i < length xs → HasWritten took f (after_commas (take i xs)) g → HasWritten took g (codes "," ++ cell_text (get_or xs i None)) h → HasWritten took f (after_commas (take (i + 1) xs)) h
  goes_on lt p q = has_written_of_eq took f _ _ h (one_more xs i lt) (has_written_append took f _ g _ h p q)

  pub ends : (all : List (Option ℕ)) (x : Option ℕ) → all ≡ x ∷ xs → length xs ≤ i → HasWritten took f (cell_text x) g → HasWritten took g (after_commas (take i xs)) h → HasWritten took f (row_text all) h
  ends all x e le p q = has_written_of_eq took f _ _ h (all_written all xs x i e le) (has_written_append took f _ g _ h p q)

-- what the loop over the entries takes
pub ruleset turns = (goes_on, ends)
