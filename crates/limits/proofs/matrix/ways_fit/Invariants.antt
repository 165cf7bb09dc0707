use Rattle.std.proofs.Common.{ℕ, ◌<◌, ◌≤◌}
use Rattle.differences.specs.Bounds.{add, size, arithmetic}
use Rattle.differences.specs.Matrix.{via}
use Rattle.limits.specs.Tightening.{matrix}
use Rattle.limits.proofs.matrix.ways_fit.Given as goal

abbrev pub invariant-loop-i : goal.invariant-loop-i
invariant-loop-i g l =
    let M = matrix g.L.Limit l.limits in
    let c = g.L.Limit.bound l.fn.bound.limit in
    (p : ℕ) → p < l.i → (size (add (M p l.fn.bound.row) c) ≤ 4000000000) × ((q : ℕ) → q ≤ l.clocks → size (via (arithmetic g.L.Limit.time) M l.fn.bound.row l.fn.bound.column c p q) ≤ 4000000000)
