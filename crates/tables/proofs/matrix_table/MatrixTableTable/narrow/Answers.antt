use Rattle.std.proofs.Common.{arith, rules, w64}
use Rattle.std.proofs.lemmas.Int.{to_z-of_z}
use Rattle.std.proofs.lemmas.Result.{err_from_is_err_and}
use Rattle.tables.specs.Recovering.{recovered}
use Rattle.tables.proofs.Same.{same_table}
use Rattle.tables.proofs.matrix_table.MatrixTableTable.narrow.Goals as goal

pub narrow-requires : goal.narrow-requires
narrow-requires g c = (search rules, (rw c.REACH.ensures (recovered c.args.self.now.sound), omega arith))

pub returns-in_err-narrow-clause-refusal : goal.returns-in_err-narrow-clause-refusal
returns-in_err-narrow-clause-refusal g c =
    let p = err_from_is_err_and c.from_residual.result c.from_residual.ensures.1 in
    rw (p.1, p.2) (rw (c.REACH.ensures, to_z-of_z w64 c.args.constant c.ranges.constant) at c.in_err-narrow.ensures.refusal)

pub returns-in_err-narrow-clause-readings : goal.returns-in_err-narrow-clause-readings
returns-in_err-narrow-clause-readings g c =
    rw (err_from_is_err_and c.from_residual.result c.from_residual.ensures.1).1 (same_table _ _ c.in_err-narrow.ensures.same)

pub returns-clause-refusal : goal.returns-clause-refusal
returns-clause-refusal g c = rw (c.REACH.ensures, to_z-of_z w64 c.args.constant c.ranges.constant) at c.in_ok-narrow.ensures.refusal

pub returns-clause-readings : goal.returns-clause-readings
returns-clause-readings g c = (c.in_ok-narrow.ensures.clocks, rw c.in_ok-narrow.ensures.clocks (rw (to_z-of_z w64 c.args.constant c.ranges.constant) at c.in_ok-narrow.ensures.readings))
