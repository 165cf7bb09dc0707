-- Where a place of a part stands, by the library's search. Assumes nothing.
use Rattle.std.proofs.Common.{◌≡◌, ℕ, ◌+◌, Bool, ◌&&◌, cond, ◌==◌, List, [], ◌∷◌, map, Some, refl, ap, ◌∙◌}
use Rattle.std.specs.Str.{bytes_eq}
use Rattle.std.specs.List.{position, position_from}
use Rattle.std.proofs.lemmas.Iterator.Adapters.{position_from-zero}
use Rattle.text.specs.Names.{letters}
use Rattle.network.specs.declared.records.Place.{Place}
use Rattle.network.specs.Lines.{place_position}
use Rattle.network.specs.Networks.{place_of}

module _ (part : ℕ) (x : List ℕ) where
  abbrev pub is_sought : Place → Bool
  is_sought p = p.part == part && bytes_eq (letters p.name) x

  position_from-placed : (k : ℕ) (ps : List Place) → position_from is_sought k ps ≡ place_position k part x (map place_of ps)
  position_from-placed k [] = refl
  position_from-placed k (p ∷ ps) = ap (cond (is_sought p) (Some k)) (position_from-placed (k + 1) ps)

  pub position-placed : (ps : List Place) → position is_sought ps ≡ place_position 0 part x (map place_of ps)
  position-placed ps = position_from-zero is_sought ps ∙ position_from-placed 0 ps
