use Rattle.std.proofs.Common.{arith}
use Rattle.tables.proofs.Writing.{row_copied_next}
use Rattle.tables.proofs.matrix.Matrix.copy_row.Goals as goal

pub loop-column-preserved : goal.loop-column-preserved
loop-column-preserved g c = record { clocks = omega arith; limits = row_copied_next (omega arith) (omega arith) (omega arith) (omega arith) (omega arith) c.set.ensures.limits c.limit-limit.ensures c.loop-column.invariant.limits }

pub returns-2-clause-limits : goal.returns-2-clause-limits
returns-2-clause-limits g c = row_copied_next (omega arith) (omega arith) (omega arith) (omega arith) (omega arith) c.set.ensures.limits c.limit-limit.ensures c.loop-column.invariant.limits
