use Rattle.tables.specs.Recovering.{recovered}
use Rattle.tables.proofs.matrix_table.MatrixTableTable.pass.Goals as goal

pub invariant_of-self : goal.invariant_of-self
invariant_of-self g c = record { sound = rw c.pass.ensures.clocks (∣ (c.pass.ensures.readings _ (recovered c.args.self.now.sound)).0 ∣₁) }

pub returns-clause-readings : goal.returns-clause-readings
returns-clause-readings g c = rw c.pass.ensures.clocks ((c.pass.ensures.readings _ (recovered c.args.self.now.sound)).1)
