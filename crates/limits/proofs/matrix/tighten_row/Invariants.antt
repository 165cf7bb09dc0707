use Rattle.limits.specs.Tightening.{Row, matrix}
use Rattle.limits.proofs.matrix.tighten_row.Given as goal

abbrev pub invariant-loop-j : goal.invariant-loop-j
invariant-loop-j g l = Row g.L.Limit.time l.i l.column l.j (g.L.Limit.bound l.through) (matrix g.L.Limit l.initial.limits) (matrix g.L.Limit l.limits)
