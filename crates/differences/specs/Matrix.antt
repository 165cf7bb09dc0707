-- Matrices of limits over clocks 0 to n: row i, column j limits what clock i shows less what clock j shows. Assumes nothing.
use Rattle.std.specs.Prelude.{◌≡◌, ℕ, ◌+◌, ◌*◌, ◌≤◌, true, cond, List, map, ℤ, ◌-ℤ◌, slice_index_or}
use Rattle.differences.specs.Bounds.{Bound, none}
use Rattle.differences.specs.Laws.{Arithmetic}

-- a matrix that is stored row after row, eight limits to a row
abbrev pub entry : {L : Type 0} → (L → Bound) → List L → ℕ → ℕ → Bound
entry bound limits i j = slice_index_or (map bound limits) (i * 8 + j) none

module _ {B : Type 0} (A : Arithmetic B) where
  -- the clocks 0 to n, clock i showing v i parts of the cut k, keep every limit of M
  abbrev pub Meets : ℕ → (ℕ → ℕ → B) → (ℕ → ℤ) → ℕ → Type 0
  Meets n M v k = (i j : ℕ) → i ≤ n → j ≤ n → A.meets (M i j) (v i -ℤ v j) k

  -- no way round through a third clock says more than the limit itself
  pub record Closed (n : ℕ) (M : ℕ → ℕ → B) : Type 0 where
    pub diagonal : (i : ℕ) → i ≤ n → M i i ≡ A.nought
    pub triangle : (i l j : ℕ) → i ≤ n → l ≤ n → j ≤ n → A.leq (M i j) (A.add (M i l) (M l j)) ≡ true

  -- the smaller of two limits
  abbrev pub least : B → B → B
  least x y = cond (A.leq x y) x y

  -- from i to a, over the limit c on a less b, and from b to j
  abbrev pub via : (ℕ → ℕ → B) → ℕ → ℕ → B → ℕ → ℕ → B
  via M a b c i j = A.add (A.add (M i a) c) (M b j)

  -- each limit is the smaller of what it was and the way over c
  abbrev pub Tightened : ℕ → ℕ → ℕ → B → (ℕ → ℕ → B) → (ℕ → ℕ → B) → Type 0
  Tightened n a b c old new = (i j : ℕ) → i ≤ n → j ≤ n → new i j ≡ least (old i j) (via old a b c i j)
