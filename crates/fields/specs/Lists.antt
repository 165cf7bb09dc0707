-- The items of a field, and the order of what is asked of them. Assumes nothing.
use Rattle.std.specs.Prelude.{ℕ, Bool, false, cond, ◌||◌, List, [], ◌∷◌, map, length, Some, None, Ok, Err, codes, Option, Result, ◌==◌, nat_lt}
use Rattle.std.specs.Str.{bytes_eq}
use Rattle.text.specs.declared.flaw.Flaw.{Flaw}
use Rattle.text.specs.declared.flaw.Flaw.TheVariants.{Form, Name, Range, Count}
use Rattle.text.specs.Pieces.{pieces}

abbrev pub rank : Flaw → ℕ
rank Form = 1
rank Name = 2
rank Range = 3
rank Count = 4

-- which of two flaws is asked first
abbrev pub earlier : Option Flaw → Flaw → Option Flaw
earlier None f = Some f
earlier (Some e) f = cond (nat_lt (rank f) (rank e)) (Some f) (Some e)

abbrev pub same_flaw : Flaw → Flaw → Bool
same_flaw e f = rank e == rank f

module _ {X : Type 0} where
  -- some item is refused so
  abbrev pub has : Flaw → List (Result X Flaw) → Bool
  has f [] = false
  has f (Ok x ∷ rs) = has f rs
  has f (Err e ∷ rs) = same_flaw e f || has f rs

  -- the items that are read
  abbrev pub oks : List (Result X Flaw) → List X
  oks [] = []
  oks (Ok x ∷ rs) = x ∷ oks rs
  oks (Err e ∷ rs) = oks rs

  -- the form of all items is asked first, then all names, then all ranges, then how many there are
  abbrev pub staged : ℕ → List (Result X Flaw) → Result (List X) Flaw
  staged most rs =
      cond (has Form rs) (Err Form) (
      cond (has Name rs) (Err Name) (
      cond (has Range rs) (Err Range) (
      cond (has Count rs || nat_lt most (length rs)) (Err Count) (
      Ok (oks rs)))))

  -- `-` is no item; else at most so many items, joined by ','
  abbrev pub list_of : ℕ → (List ℕ → Result X Flaw) → List ℕ → Result (List X) Flaw
  list_of most read bs = cond (bytes_eq bs (codes "-")) (Ok []) (staged most (map read (pieces 44 bs)))
