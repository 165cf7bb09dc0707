use Rattle.std.proofs.Common.{rules}
use Rattle.network.proofs.Naming.{same_names}
use Rattle.edges.proofs.edge_line.edge_of.Goals as goal

pub returns-in_err-at-4 : goal.returns-in_err-at-4
returns-in_err-at-4 c = search (rules, same_names)

pub returns-in_err-at-5 : goal.returns-in_err-at-5
returns-in_err-at-5 c = search (rules, same_names)

pub returns-in_err-at-6 : goal.returns-in_err-at-6
returns-in_err-at-6 c = search (rules, same_names)

pub returns-in_err-at-7 : goal.returns-in_err-at-7
returns-in_err-at-7 c = search (rules, same_names)

pub returns : goal.returns
returns c = search (rules, same_names)
