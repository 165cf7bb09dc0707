use Rattle.std.proofs.Common.{◌+◌, arith}
use Rattle.limits.proofs.Rows.{rows_next}
use Rattle.limits.proofs.matrix.tighten_rows.Goals as goal

pub loop-i-preserved : goal.loop-i-preserved
loop-i-preserved g c = rows_next g.L.Limit.time g.met.L.Limit.lawful (omega arith) (omega arith) (omega arith) (omega arith) (omega arith) c.requires.leaves c.loop-i.invariant c.sum_within-through.ensures c.limit_at.ensures c.tighten_row.ensures

pub returns-2 : goal.returns-2
returns-2 g c =
    let rows = rows_next g.L.Limit.time g.met.L.Limit.lawful {m = c.args.clocks + 1} (omega arith) (omega arith) (omega arith) (omega arith) (omega arith) c.requires.leaves c.loop-i.invariant c.sum_within-through.ensures c.limit_at.ensures c.tighten_row.ensures in
    record { rest = λ i j h k d. rows.rest i j h k (λ l. d (omega arith)); limits = λ i j h k. rows.done i j (omega arith) k }
