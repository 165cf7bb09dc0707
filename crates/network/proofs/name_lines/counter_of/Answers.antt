use Rattle.std.proofs.Common.{rules}
use Rattle.network.proofs.Naming.{same_names}
use Rattle.network.proofs.name_lines.counter_of.Goals as goal

pub returns-in_err-name : goal.returns-in_err-name
returns-in_err-name c = search (rules, same_names)

pub returns-in_err-low : goal.returns-in_err-low
returns-in_err-low c = search (rules, same_names)

pub returns-in_err-high : goal.returns-in_err-high
returns-in_err-high c = search (rules, same_names)

pub returns-in_err-first : goal.returns-in_err-first
returns-in_err-first c = search (rules, same_names)

pub returns : goal.returns
returns c = search (rules, same_names)
