-- Equal fractions are the same reading, and nothing that is said of a table depends on the cut. Assumes nothing.
use Rattle.std.specs.Prelude.{ℕ, ◌*◌, ◌≤◌, map, ℤ}
use Rattle.differences.specs.Bounds.{Time, Cut}
use Rattle.limits.specs.declared.comparison.Comparison.{Comparison}
use Rattle.limits.specs.declared.limit.Limit.{Ghosts as LimitGhosts}
use Rattle.tables.specs.Readings.{Reading, SameReading}
use Rattle.tables.specs.Sets.{Zeros, After, Reset, Under}
use Rattle.tables.specs.declared.table.Table.{Ghosts as TableGhosts}

-- the same fractions at m times the cut
abbrev pub refined : ℕ → Reading → Reading
refined m r = record { cut = m * r.cut; parts = map (λ x. m * x) r.parts }

-- a set of readings, not of the ways to write them
abbrev pub CutFree : Time → (Reading → Type 0) → Type 0
CutFree time P = (r s : Reading) → SameReading r s → Cut time s.cut → P r → P s

pub record Fractions {T L : Type 0} (D : TableGhosts T L) (E : LimitGhosts L) : Type 0 where
  pub reflexive : (r : Reading) → SameReading r r
  pub symmetric : (r s : Reading) → SameReading r s → SameReading s r
  pub transitive : (r s t : Reading) → 1 ≤ s.cut → SameReading r s → SameReading s t → SameReading r t
  pub refining : (m : ℕ) → 1 ≤ m → (r : Reading) → SameReading r (refined m r)
  pub members : (t : T) → CutFree E.time (D.member t)
  pub zeros : (n : ℕ) → CutFree E.time (Zeros E.time n)
  pub passing : (t : T) → CutFree E.time (After E.time (D.member t))
  pub resetting : (t : T) (x : ℕ) → CutFree E.time (Reset E.time x (D.member t))
  pub narrowing : (t : T) (x : ℕ) (comparison : Comparison) (c : ℤ) → CutFree E.time (Under x comparison c (D.member t))
