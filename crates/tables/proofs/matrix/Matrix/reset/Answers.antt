use Rattle.std.proofs.Common.{arith}
use Rattle.limits.specs.Tightening.{matrix}
use Rattle.tables.proofs.Changed.{copied_sound}
use Rattle.tables.proofs.matrix.Matrix.reset.Goals as goal

pub returns-clause-readings : goal.returns-clause-readings
returns-clause-readings g c = copied_sound g.L.Limit g.met.L.Limit.lawful g.met.L.Limit.proper c.args.self.now.clocks c.args.self.now.limits c.copy_column.new.self.limits c.args.clock (matrix g.L.Limit c.copy_row.new.self.limits) (omega arith) (omega arith) c.copy_row.ensures.limits (rw c.copy_row.ensures.clocks at c.copy_column.ensures.limits)
