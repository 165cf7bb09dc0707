use Rattle.std.proofs.Common.{ℕ, ◌<◌, ◌≤◌}
use Rattle.differences.specs.Bounds.{size}
use Rattle.limits.specs.Tightening.{matrix}
use Rattle.tables.proofs.matrix.Matrix.all_near.Given as goal

abbrev pub invariant-loop-row : goal.invariant-loop-row
invariant-loop-row g l = (p : ℕ) → p < l.row → (q : ℕ) → q ≤ l.self.clocks → size (matrix g.L.Limit l.self.limits p q) ≤ l.reach
