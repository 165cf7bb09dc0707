use Rattle.limits.proofs.Lawful.{limit_laws}
use Rattle.limits.proofs.matrix.laws_hold.Goals as goal

pub returns : goal.returns
returns g c = limit_laws g.L.Limit g.met.L.Limit.lawful g.met.L.Limit.proper g.met.L.Limit.one
