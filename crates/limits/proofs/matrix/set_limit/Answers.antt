use Rattle.limits.proofs.Rows.{written}
use Rattle.limits.proofs.matrix.set_limit.Goals as goal

pub returns : goal.returns
returns g c = written g.L.Limit.bound c.args.limits.now c.args.row c.args.column c.args.limit c.requires.square c.requires.clocks.0 c.requires.clocks.1
