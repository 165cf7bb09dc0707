-- The readings that a matrix of limits keeps. Assumes nothing.
use Rattle.std.specs.Prelude.{◌≡◌, ℕ, ◌<◌, ◌≤◌, true, false, ℤ, neg_ℤ}
use Rattle.differences.specs.Bounds.{Bound, Time, upto, at_most, nought, size, IsMet, less_than, arithmetic}
use Rattle.differences.specs.Matrix.{Closed}
use Rattle.limits.specs.declared.comparison.Comparison.{Comparison}
use Rattle.limits.specs.declared.comparison.Comparison.TheVariants.{Less, AtMost, Greater, AtLeast}
use Rattle.tables.specs.Readings.{Reading, Sized, difference}
use Rattle.tables.specs.Sets.{Same, After, Reset}

-- a reading of n clocks that keeps every limit of M
abbrev pub Holds : Time → ℕ → (ℕ → ℕ → Bound) → Reading → Type 0
Holds time n M r = Sized time n r × ((i j : ℕ) → i ≤ n → j ≤ n → IsMet (M i j) (difference r i j) r.cut)

-- no way round is shorter, and no clock shows less than zero
pub record Shaped (time : Time) (n : ℕ) (M : ℕ → ℕ → Bound) : Type 0 where
  pub closed : Closed (arithmetic time) n M
  pub natural : (j : ℕ) → j ≤ n → at_most (M 0 j) nought ≡ true

-- what a table keeps of its matrix
pub record Sound (time : Time) (reach n : ℕ) (M : ℕ → ℕ → Bound) : Type 0 where
  pub few : n ≤ 7
  pub shaped : Shaped time n M
  pub near : (i j : ℕ) → i ≤ n → j ≤ n → size (M i j) ≤ reach

-- some limit exceeds the reach in size
abbrev pub Exceeds : ℕ → ℕ → (ℕ → ℕ → Bound) → Type 0
Exceeds reach n M = (i : ℕ) × (j : ℕ) × (i ≤ n) × (j ≤ n) × (reach < size (M i j))

-- what a sound matrix M becomes as time passes, and as clock x is put to zero: N is sound, and keeps just the readings wanted
abbrev pub Passed : Time → ℕ → (ℕ → ℕ → Bound) → (ℕ → ℕ → Bound) → Type 0
Passed time n M N = (reach : ℕ) → Sound time reach n M → Sound time reach n N × Same (Holds time n N) (After time (Holds time n M))

abbrev pub PutToZero : Time → ℕ → ℕ → (ℕ → ℕ → Bound) → (ℕ → ℕ → Bound) → Type 0
PutToZero time n x M N = (reach : ℕ) → Sound time reach n M → Sound time reach n N × Same (Holds time n N) (Reset time x (Holds time n M))

-- a condition on clock x as a limit on a difference: whose row, whose column, and which limit
abbrev pub row_of : Comparison → ℕ → ℕ
row_of Less x = x
row_of AtMost x = x
row_of Greater x = 0
row_of AtLeast x = 0

abbrev pub column_of : Comparison → ℕ → ℕ
column_of Less x = 0
column_of AtMost x = 0
column_of Greater x = x
column_of AtLeast x = x

abbrev pub limit_of : Time → Comparison → ℤ → Bound
limit_of time Less c = less_than time c
limit_of time AtMost c = upto c false
limit_of time Greater c = less_than time (neg_ℤ c)
limit_of time AtLeast c = upto (neg_ℤ c) false
