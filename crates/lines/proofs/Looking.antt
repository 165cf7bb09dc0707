-- Where a name stands among declared things, by the library's search. Assumes nothing.
use Rattle.std.proofs.Common.{◌≡◌, ℕ, ◌+◌, cond, List, [], ◌∷◌, map, Some, refl, ap, ◌∙◌}
use Rattle.std.specs.Str.{bytes_eq}
use Rattle.std.specs.List.{position as first_index, position_from}
use Rattle.std.proofs.lemmas.Iterator.Adapters.{position_from-zero}
use Rattle.lines.specs.Lookup.{position}

module _ {X : Type 0} (called : X → List ℕ) (x : List ℕ) where
  position_from-named : (k : ℕ) (xs : List X) → position_from (λ d. bytes_eq (called d) x) k xs ≡ position k x (map called xs)
  position_from-named k [] = refl
  position_from-named k (d ∷ xs) = ap (cond (bytes_eq (called d) x) (Some k)) (position_from-named (k + 1) xs)

  pub first_index-named : (xs : List X) → first_index (λ d. bytes_eq (called d) x) xs ≡ position 0 x (map called xs)
  first_index-named xs = position_from-zero (λ d. bytes_eq (called d) x) xs ∙ position_from-named 0 xs
