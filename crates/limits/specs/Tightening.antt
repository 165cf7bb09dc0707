-- What tightening a stored matrix by one condition promises. D says what its limits mean. Assumes nothing.
use Rattle.std.specs.Prelude.{◌≡◌, ℕ, ◌<◌, ◌≤◌, false, ◌≢◌, ◌⊎◌, ◌↔◌, List, length, ℤ, ◌-ℤ◌}
use Rattle.differences.specs.Bounds.{Bound, Time, Large, at_most, add, nought, IsMet, Cut, arithmetic}
use Rattle.differences.specs.Matrix.{entry, Meets, Closed, least, via}
use Rattle.limits.specs.declared.limit.Limit.{Ghosts}

-- the matrix has eight rows of eight, and a and b are among the clocks 0 to n, at most seven
pub record Fits {L : Type 0} (limits : List L) (n a b : ℕ) : Type 0 where
  pub square : length limits ≡ 64
  pub few : n ≤ 7
  pub row : a ≤ n
  pub column : b ≤ n

module _ {L : Type 0} (D : Ghosts L) where
  abbrev pub matrix : List L → ℕ → ℕ → Bound
  matrix limits = entry D.bound limits

  -- some sum of a way over c is too large
  abbrev pub Overflows : ℕ → ℕ → ℕ → Bound → (ℕ → ℕ → Bound) → Type 0
  Overflows n a b c M = (i : ℕ) × (j : ℕ) × (i ≤ n) × (j ≤ n) × (Large (add (M i a) c) ⊎ Large (via (arithmetic D.time) M a b c i j))

  -- the limit c on a less b leaves nothing: the way there and back is below zero
  abbrev pub Contradicts : ℕ → ℕ → Bound → (ℕ → ℕ → Bound) → Type 0
  Contradicts a b c M = at_most nought (add (M b a) c) ≡ false

  -- tightening a closed matrix leaves a closed matrix, which keeps just the readings that also keep c
  abbrev pub Narrows : ℕ → ℕ → ℕ → Bound → (ℕ → ℕ → Bound) → (ℕ → ℕ → Bound) → Type 0
  Narrows n a b c old new =
      Closed (arithmetic D.time) n old
      → Closed (arithmetic D.time) n new
      × ((v : ℕ → ℤ) (k : ℕ) → Cut D.time k
      → Meets (arithmetic D.time) n new v k ↔ (Meets (arithmetic D.time) n old v k × IsMet c (v a -ℤ v b) k))

  -- no reading keeps a matrix and c
  abbrev pub LeavesNothing : ℕ → ℕ → ℕ → Bound → (ℕ → ℕ → Bound) → Type 0
  LeavesNothing n a b c old =
      (v : ℕ → ℤ) (k : ℕ) → Cut D.time k → Meets (arithmetic D.time) n old v k → IsMet c (v a -ℤ v b) k → ⊥

-- the limits of the clocks beyond n are as they were
abbrev pub Untouched : ℕ → (ℕ → ℕ → Bound) → (ℕ → ℕ → Bound) → Type 0
Untouched n old new = (i j : ℕ) → i ≤ 7 → j ≤ 7 → (i ≤ n → n < j) → new i j ≡ old i j

-- the limit at row i and column j is b, and all else up to row and column n is as it was
pub record Written (n : ℕ) (old new : ℕ → ℕ → Bound) (i j : ℕ) (b : Bound) : Type 0 where
  pub done : new i j ≡ b
  pub rest : (p q : ℕ) → p ≤ n → q ≤ n → (p ≡ i → q ≢ j) → new p q ≡ old p q

-- on the way: row i is done up to column j, with s for the way from i over c to b, and all else is as it was
pub record Row (time : Time) (i b j : ℕ) (s : Bound) (old new : ℕ → ℕ → Bound) : Type 0 where
  pub done : (q : ℕ) → q < j → new i q ≡ least (arithmetic time) (old i q) (add s (old b q))
  pub rest : (p q : ℕ) → p ≤ 7 → q ≤ 7 → (p ≡ i → j ≤ q) → new p q ≡ old p q
