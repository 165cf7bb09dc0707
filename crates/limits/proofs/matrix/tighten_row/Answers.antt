use Rattle.std.proofs.Common.{arith}
use Rattle.limits.proofs.Rows.{row_next}
use Rattle.limits.proofs.matrix.tighten_row.Goals as goal

pub loop-j-preserved : goal.loop-j-preserved
loop-j-preserved g c = row_next (omega arith) (omega arith) (omega arith) (omega arith) c.loop-j.invariant c.set_limit.ensures c.smaller-least.ensures.value c.limit_at-in-loop-j.ensures c.sum_within-over.ensures c.limit_at.ensures

pub returns-2 : goal.returns-2
returns-2 g c = row_next (omega arith) (omega arith) (omega arith) (omega arith) c.loop-j.invariant c.set_limit.ensures c.smaller-least.ensures.value c.limit_at-in-loop-j.ensures c.sum_within-over.ensures c.limit_at.ensures
