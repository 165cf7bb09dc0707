-- Sets of readings, what the calls of a table make of them, and their tight limits. Assumes nothing.
use Rattle.std.specs.Prelude.{◌≡◌, ℕ, ◌<◌, ◌≤◌, true, ◌↔◌, ℤ, pos, ◌*ℤ◌}
use Rattle.differences.specs.Bounds.{Bound, Time, Cut, Proper, IsMet, at_most, size}
use Rattle.limits.specs.Comparisons.{Compares}
use Rattle.limits.specs.declared.comparison.Comparison.{Comparison}
use Rattle.tables.specs.Readings.{Reading, shows, difference, Sized, SameReading, later, zeroed}

abbrev pub Same : (Reading → Type 0) → (Reading → Type 0) → Type 0
Same P Q = (r : Reading) → P r ↔ Q r

abbrev pub None : (Reading → Type 0) → Type 0
None P = (r : Reading) → P r → ⊥

-- the one reading in which every clock shows zero
abbrev pub Zeros : Time → ℕ → Reading → Type 0
Zeros time n r = Sized time n r × ((i : ℕ) → shows r i ≡ 0)

-- some reading of P, with one length added to all its clocks
abbrev pub After : Time → (Reading → Type 0) → Reading → Type 0
After time P r = Cut time r.cut × ((s : Reading) × (d : ℕ) × P s × SameReading r (later d s))

-- some reading of P, with clock x put to zero
abbrev pub Reset : Time → ℕ → (Reading → Type 0) → Reading → Type 0
Reset time x P r = Cut time r.cut × ((s : Reading) × P s × SameReading r (zeroed x s))

-- the readings of P in which clock x compares so with c ticks
abbrev pub Under : ℕ → Comparison → ℤ → (Reading → Type 0) → Reading → Type 0
Under x comparison c P r = P r × Compares comparison (pos (shows r x)) (c *ℤ pos r.cut)

-- all readings of P keep the limit b on clock i less clock j
abbrev pub Keeps : (Reading → Type 0) → ℕ → ℕ → Bound → Type 0
Keeps P i j b = (r : Reading) → P r → IsMet b (difference r i j) r.cut

-- b is the smallest limit of that kind of time which all readings of P keep
pub record Tight (time : Time) (P : Reading → Type 0) (i j : ℕ) (b : Bound) : Type 0 where
  pub proper : Proper time b
  pub keeps : Keeps P i j b
  pub smallest : (c : Bound) → Proper time c → Keeps P i j c → at_most b c ≡ true

-- some tight limit of P, a set of readings of n clocks, exceeds the reach in size
pub record Far (time : Time) (reach n : ℕ) (P : Reading → Type 0) : Type 0 where
  pub row : ℕ
  pub column : ℕ
  pub limit : Bound
  pub in_rows : row ≤ n
  pub in_columns : column ≤ n
  pub tight : Tight time P row column limit
  pub far : reach < size limit
