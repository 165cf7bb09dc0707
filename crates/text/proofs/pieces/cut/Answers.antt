use Rattle.std.proofs.Common.{◌≡◌, ◌==◌, sym, ◌∙◌, Some, None, rules}
use Rattle.std.specs.List.{position}
use Rattle.std.proofs.lemmas.Iterator.{YieldsList-from_slice}
use Rattle.std.proofs.lemmas.Iterator.Search.{position_from_yields_List}
use Rattle.std.proofs.lemmas.List.{take_rest}
use Rattle.text.proofs.Cutting.{pieces_from_position}
use Rattle.text.proofs.pieces.cut.Goals as goal

pub returns-in-Some-clause-pieces : goal.returns-in-Some-clause-pieces
returns-in-Some-clause-pieces c =
    let first : c.position.result ≡ position (λ b. b == c.args.at) c.args.s.now = position_from_yields_List (λ b. b == c.args.at) _ _ c.position.result c.position.ensures.ran (YieldsList-from_slice c.args.s.now cc) (λ x b q k. search rules) in
    rw take_rest (pieces_from_position c.args.at c.args.s.now (Some c.in-Some.place) (sym c.in-Some.is ∙ first))

pub returns-in-None-clause-pieces : goal.returns-in-None-clause-pieces
returns-in-None-clause-pieces c =
    let first : c.position.result ≡ position (λ b. b == c.args.at) c.args.s.now = position_from_yields_List (λ b. b == c.args.at) _ _ c.position.result c.position.ensures.ran (YieldsList-from_slice c.args.s.now cc) (λ x b q k. search rules) in
    pieces_from_position c.args.at c.args.s.now None (sym c.in-None.is ∙ first)
