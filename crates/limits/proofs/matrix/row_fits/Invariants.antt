use Rattle.std.proofs.Common.{ℕ, ◌<◌, ◌≤◌}
use Rattle.differences.specs.Bounds.{add, size}
use Rattle.limits.specs.Tightening.{matrix}
use Rattle.limits.proofs.matrix.row_fits.Given as goal

abbrev pub invariant-loop-j : goal.invariant-loop-j
invariant-loop-j g l = (q : ℕ) → q < l.j → size (add (g.L.Limit.bound l.through) (matrix g.L.Limit l.limits l.row q)) ≤ 4000000000
