use Rattle.tables.proofs.Changed.{freed_sound}
use Rattle.tables.proofs.matrix.Matrix.pass.Goals as goal

pub returns-clause-readings : goal.returns-clause-readings
returns-clause-readings g c = freed_sound g.L.Limit g.met.L.Limit.lawful g.met.L.Limit.proper c.args.self.now.clocks c.args.self.now.limits c.free_uppers.new.self.limits c.free_uppers.ensures.limits
