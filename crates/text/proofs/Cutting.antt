-- The pieces of a row of bytes are what the library's `split` gives. Assumes nothing.
use Rattle.std.proofs.Common.{◌≡◌, ◌==◌, ℕ, ◌+◌, ◌<◌, ◌≤◌, true, false, cond, eqb, List, [], ◌∷◌, length, take, drop, Option, MatchOption, refl, sym, ◌∙◌, ap, ⊎_elim, arith}
use Rattle.std.specs.List.{position, position_or_len, slice_split, onto_first}
use Rattle.std.proofs.lemmas.Bool.{lt-ltb, le-ltb, cases_lt}
use Rattle.std.proofs.lemmas.List.Splits.{slice_split_first, slice_split_none}
use Rattle.std.proofs.lemmas.List.Sums.{fails_before_first}
use Rattle.text.specs.Pieces.{pieces, first_piece, later_pieces}

pub slice_split-pieces : (c : ℕ) (s : List ℕ) → slice_split (λ b. b == c) s ≡ pieces c s
slice_split-pieces c [] = refl
slice_split-pieces c (x ∷ xs) =
    rw (slice_split-pieces c xs)
    (elim (eqb x c) as (λ e. cond e ([] ∷ pieces c xs) (onto_first x (pieces c xs)) ≡ cond e [] (x ∷ first_piece c xs) ∷ cond e (pieces c xs) (later_pieces c xs)) [ true ↦ refl | false ↦ refl ])

pieces-position : (c : ℕ) (s : List ℕ) → MatchOption (position (λ b. b == c) s) (pieces c s ≡ s ∷ []) (λ n. pieces c s ≡ take n s ∷ pieces c (drop (n + 1) s))
pieces-position c s =
    let n = position_or_len (λ b. b == c) s in
    ⊎_elim
    (λ (h : n < length s). rw (lt-ltb n (length s) h) (sym (slice_split-pieces c s) ∙ slice_split_first (λ b. b == c) s 0 h ∙ ap (λ l. take n s ∷ l) (slice_split-pieces c (drop (n + 1) s))))
    (λ (h : length s ≤ n). rw (le-ltb n (length s) h) (sym (slice_split-pieces c s) ∙ slice_split_none (λ b. b == c) s (λ k d l. fails_before_first (λ b. b == c) s k d (omega arith))))
    (cases_lt n (length s))

-- the first piece and the pieces after it, by where a search finds the first separator
pub pieces_from_position : (c : ℕ) (s : List ℕ) (r : Option ℕ) → r ≡ position (λ b. b == c) s → MatchOption r (pieces c s ≡ s ∷ []) (λ n. pieces c s ≡ take n s ∷ pieces c (drop (n + 1) s))
pieces_from_position c s r e = rw e (pieces-position c s)
