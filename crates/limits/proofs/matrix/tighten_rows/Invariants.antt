use Rattle.limits.specs.Tightening.{matrix}
use Rattle.limits.proofs.Rows.{Rows}
use Rattle.limits.proofs.matrix.tighten_rows.Given as goal

abbrev pub invariant-loop-i : goal.invariant-loop-i
invariant-loop-i g l = Rows g.L.Limit.time l.clocks l.fn.bound.row l.fn.bound.column l.i (g.L.Limit.bound l.fn.bound.limit) (matrix g.L.Limit l.initial.limits) (matrix g.L.Limit l.limits)
