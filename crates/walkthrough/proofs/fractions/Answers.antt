use Rattle.tables.proofs.Fractions.{fractions}
use Rattle.walkthrough.proofs.fractions.Goals as goal

pub returns : goal.returns
returns g c = fractions g.T.Table g.T.Limit.Limit g.met.T.Limit.Limit.lawful g.met.T.Table.sized g.met.T.Table.same
