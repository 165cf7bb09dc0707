-- Matrices of limits as they are stored, and what the work on them leaves. Assumes nothing.
use Rattle.std.specs.Prelude.{◌≡◌, ℕ, ◌+◌, ◌*◌, ◌<◌, ◌≤◌, List, [], ◌∷◌, length, slice_index_or, ◌≢◌}
use Rattle.std.proofs.Common.{arith}
use Rattle.differences.specs.Bounds.{Bound}

pub some_stored : (L : Type 0) → length {A = L} [] ≡ 64 → ⊥
some_stored L e = omega arith

-- the limit at row i and column j of eight rows of eight; past them it is the first limit
abbrev pub limit_at : {L : Type 0} (limits : List L) → length limits ≡ 64 → ℕ → ℕ → L
limit_at {L} [] square i j = absurd (some_stored L square)
limit_at (first ∷ limits) square i j = slice_index_or (first ∷ limits) (i * 8 + j) first

module _ (n : ℕ) (old new : ℕ → ℕ → Bound) where
  -- column 0 is `free` from row 1 to row i, and all else is as it was
  pub record Freed (free : Bound) (i : ℕ) : Type 0 where
    pub done : (p : ℕ) → 1 ≤ p → p < i → new p 0 ≡ free
    pub rest : (p q : ℕ) → p ≤ n → q ≤ n → (1 ≤ p → p < i → q ≢ 0) → new p q ≡ old p q

  -- row x is row 0 up to column j
  pub record RowCopied (x j : ℕ) : Type 0 where
    pub done : (q : ℕ) → q < j → new x q ≡ old 0 q
    pub rest : (p q : ℕ) → p ≤ n → q ≤ n → (p ≡ x → q < j → ⊥) → new p q ≡ old p q

  -- column x is column 0 up to row i
  pub record ColumnCopied (x i : ℕ) : Type 0 where
    pub done : (p : ℕ) → p < i → new p x ≡ old p 0
    pub rest : (p q : ℕ) → p ≤ n → q ≤ n → (p < i → q ≢ x) → new p q ≡ old p q
