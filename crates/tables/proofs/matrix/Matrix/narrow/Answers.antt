use Rattle.std.proofs.Common.{ap, ◌∙◌, arith, rules, w64}
use Rattle.std.proofs.lemmas.Result.{err_from_is_err_and}
use Rattle.std.proofs.lemmas.Int.{to_z-of_z}
use Rattle.limits.specs.Tightening.{matrix}
use Rattle.tables.specs.Matrices.{limit_of}
use Rattle.tables.proofs.Narrowing.{Asks, none_left, left, kept, still_sound}
use Rattle.tables.proofs.matrix.Matrix.narrow.Given as given
use Rattle.tables.proofs.matrix.Matrix.narrow.Goals as goal
use Rattle.tables.proofs.matrix.Matrix.narrow.Goals.{After-tighten}

asks : (g : given.Over) (c : After-tighten g) → Asks g.L.Limit.time c.args.reach c.args.self.now.clocks (matrix g.L.Limit c.args.self.now.limits) c.args.clock c.args.comparison c.args.constant c.condition-bound.result.row c.condition-bound.result.column (g.L.Limit.bound c.condition-bound.result.limit)
asks g c =
    let e = c.condition-bound.ensures in
    record { some_clock = omega arith; a_clock = omega arith; from_zero = search rules; to_longest = search rules; near = c.requires.near; sound = c.requires.sound; row = e.row; column = e.column; limit = e.limit ∙ ap (limit_of g.L.Limit.time c.args.comparison) (to_z-of_z w64 c.args.constant c.ranges.constant) }

pub returns-in_err-tighten-clause-refusal : goal.returns-in_err-tighten-clause-refusal
returns-in_err-tighten-clause-refusal g c =
    let p = err_from_is_err_and c.from_residual.result c.from_residual.ensures.1 in
    rw (p.1, p.2) (none_left g.L.Limit g.met.L.Limit.lawful (asks g (goal.at.returns-in_err-tighten-clause-refusal g c).After-tighten) c.args.self.now.limits c.args.self.now.square c.in_err-tighten.ensures.refusal c.in_err-tighten.ensures.readings)

pub returns-in_err-all_near-clause-refusal : goal.returns-in_err-all_near-clause-refusal
returns-in_err-all_near-clause-refusal g c =
    let p = err_from_is_err_and c.from_residual-in_err-all_near.result c.from_residual-in_err-all_near.ensures.1 in
    rw (p.1, p.2) (left g.L.Limit g.met.L.Limit.lawful (asks g (goal.at.returns-in_err-all_near-clause-refusal g c).After-tighten) g.met.L.Limit.proper c.tighten.new.limits c.in_ok-tighten.ensures.limits c.in_ok-tighten.ensures.readings _ c.in_err-all_near.ensures)

pub returns-clause-refusal : goal.returns-clause-refusal
returns-clause-refusal g c = left g.L.Limit g.met.L.Limit.lawful (asks g (goal.at.returns-clause-refusal g c).After-tighten) g.met.L.Limit.proper c.tighten.new.limits c.in_ok-tighten.ensures.limits c.in_ok-tighten.ensures.readings _ c.in_ok-all_near.ensures

pub returns-clause-sound : goal.returns-clause-sound
returns-clause-sound g c = still_sound g.L.Limit g.met.L.Limit.lawful (asks g (goal.at.returns-clause-sound g c).After-tighten) g.met.L.Limit.proper c.tighten.new.limits c.in_ok-tighten.ensures.limits c.in_ok-tighten.ensures.readings c.in_ok-all_near.ensures

pub returns-clause-readings : goal.returns-clause-readings
returns-clause-readings g c = kept g.L.Limit g.met.L.Limit.lawful (asks g (goal.at.returns-clause-readings g c).After-tighten) g.met.L.Limit.proper c.tighten.new.limits c.in_ok-tighten.ensures.limits c.in_ok-tighten.ensures.readings
