use Rattle.std.proofs.Common.{arith}
use Rattle.limits.specs.Tightening.{matrix}
use Rattle.tables.specs.Tables.{zeros_sound}
use Rattle.tables.specs.Valuations.{zeros_hold}
use Rattle.tables.proofs.matrix_table.MatrixTableTable.start.Goals as goal

pub invariant_of-result : goal.invariant_of-result
invariant_of-result g c = record { sound = rw c.zeros.ensures.clocks (∣ zeros_sound g.L.Limit.time g.met.L.Limit.lawful 1000000000 c.args.clocks (matrix g.L.Limit c.zeros.result.limits) (omega arith) c.zeros.ensures.limits ∣₁) }

pub returns-clause-readings : goal.returns-clause-readings
returns-clause-readings g c = (c.zeros.ensures.clocks, rw c.zeros.ensures.clocks (zeros_hold g.L.Limit.time g.met.L.Limit.lawful c.args.clocks (matrix g.L.Limit c.zeros.result.limits) c.zeros.ensures.limits))
