use Rattle.std.proofs.Common.{ℕ, ◌<◌, ◌≤◌}
use Rattle.differences.specs.Bounds.{size}
use Rattle.limits.specs.Tightening.{matrix}
use Rattle.tables.proofs.matrix.Matrix.row_near.Given as goal

abbrev pub invariant-loop-column : goal.invariant-loop-column
invariant-loop-column g l = (q : ℕ) → q < l.column → size (matrix g.L.Limit l.self.limits l.row q) ≤ l.reach
