use Rattle.std.proofs.Common.{map, rules}
use Rattle.fields.proofs.Collecting.{list_of_from_collect}
use Rattle.fields.proofs.list.read_items.Goals as goal

pub returns-in-None : goal.returns-in-None
returns-in-None g c = list_of_from_collect g.row.N (g.I.Item.reading (map g.I.Of.Declared.called c.args.declared.now)) c.args.s.now _ (search rules) (search rules)

pub returns-in-Some-worst : goal.returns-in-Some-worst
returns-in-Some-worst g c = list_of_from_collect g.row.N (g.I.Item.reading (map g.I.Of.Declared.called c.args.declared.now)) c.args.s.now _ (search rules) (search rules)
