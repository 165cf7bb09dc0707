use Rattle.std.proofs.Common.{arith}
use Rattle.limits.proofs.Rows.{written}
use Rattle.tables.proofs.matrix.Matrix.set.Goals as goal

pub returns-clause-limits : goal.returns-clause-limits
returns-clause-limits g c = written g.L.Limit.bound c.args.self.now.limits c.args.row c.args.column c.args.limit c.args.self.now.square (omega arith) (omega arith)
