use Rattle.std.proofs.Common.{◌≡◌, [], map, None}
use Rattle.bounded.specs.Items.{items}
use Rattle.text.specs.Pieces.{pieces, more_pieces}
use Rattle.fields.proofs.Collecting.{collect, left_length}
use Rattle.fields.proofs.list.read_items.Given as goal

abbrev pub invariant-loop-left : goal.invariant-loop-left
invariant-loop-left g l = collect g.row.N l.worst (items l.list) (map (g.I.Item.reading (map g.I.Of.Declared.called l.declared)) (more_pieces 44 l.left)) ≡ collect g.row.N None [] (map (g.I.Item.reading (map g.I.Of.Declared.called l.declared)) (pieces 44 l.s))

abbrev pub decreases-loop-left : goal.decreases-loop-left
decreases-loop-left g l = left_length l.left
