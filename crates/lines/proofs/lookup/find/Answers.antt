use Rattle.std.proofs.Common.{◌∙◌, rules}
use Rattle.std.specs.Str.{bytes_eq}
use Rattle.std.proofs.lemmas.Iterator.{YieldsList-from_slice}
use Rattle.std.proofs.lemmas.Iterator.Search.{position_from_yields_List}
use Rattle.lines.proofs.Looking.{first_index-named}
use Rattle.lines.proofs.lookup.find.Goals as goal

pub returns-clause-place : goal.returns-clause-place
returns-clause-place g c =
    let called = λ (d : g.row.D.Denot). bytes_eq (g.D.Declared.called d) c.args.name.now in
    position_from_yields_List called _ _ _ c.position.ensures.ran (YieldsList-from_slice c.args.all.now cc) (λ x b q k. search rules) ∙ first_index-named g.D.Declared.called c.args.name.now c.args.all.now
