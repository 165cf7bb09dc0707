-- The pieces of a row of bytes. Assumes nothing.
use Rattle.std.specs.Prelude.{ℕ, ◌<◌, cond, List, [], ◌∷◌, length, take, drop, Some, None, Option, ◌==◌}
use Rattle.std.specs.Borrow.{Bor}
use Rattle.std.specs.List.{prefix_len}
use Rattle.text.specs.Bytes.{in_name}

-- the first piece: what stands before the first byte c
abbrev pub first_piece : ℕ → List ℕ → List ℕ
first_piece c [] = []
first_piece c (x ∷ xs) = cond (x == c) [] (x ∷ first_piece c xs)

-- the pieces after the first: one begins behind each byte c
abbrev pub later_pieces : ℕ → List ℕ → List (List ℕ)
later_pieces c [] = []
later_pieces c (x ∷ xs) = cond (x == c) (first_piece c xs ∷ later_pieces c xs) (later_pieces c xs)

-- what stands between the bytes c
abbrev pub pieces : ℕ → List ℕ → List (List ℕ)
pieces c xs = first_piece c xs ∷ later_pieces c xs

-- the pieces of what is left, if anything is
abbrev pub more_pieces : ℕ → Option (Bor (List ℕ)) → List (List ℕ)
more_pieces c None = []
more_pieces c (Some r) = pieces c r.now

abbrev pub Shorter : Option (Bor (List ℕ)) → List ℕ → Type 0
Shorter None s = Unit {0}
Shorter (Some r) s = length r.now < length s

-- the bytes of names in front
abbrev pub name_front : List ℕ → List ℕ
name_front bs = take (prefix_len in_name bs) bs

-- what stands after them
abbrev pub name_back : List ℕ → List ℕ
name_back bs = drop (prefix_len in_name bs) bs

-- what stands after a word, where the row begins with it
abbrev pub after : List ℕ → List ℕ → Option (List ℕ)
after [] bs = Some bs
after (w ∷ ws) [] = None
after (w ∷ ws) (b ∷ bs) = cond (b == w) (after ws bs) None
