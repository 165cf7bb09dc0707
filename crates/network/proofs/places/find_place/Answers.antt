use Rattle.std.proofs.Common.{◌∙◌, rules}
use Rattle.std.proofs.lemmas.Iterator.{YieldsList-from_slice}
use Rattle.std.proofs.lemmas.Iterator.Search.{position_from_yields_List}
use Rattle.network.proofs.Placing.{is_sought, position-placed}
use Rattle.network.proofs.places.find_place.Goals as goal

pub returns : goal.returns
returns c =
    let places = c.args.places.now in
    let part = c.args.part in
    let name = c.args.name.now in
    position_from_yields_List (is_sought part name) _ _ _ c.position.ensures.ran (YieldsList-from_slice places cc) (λ x b q k. search rules)
    ∙ position-placed part name places
