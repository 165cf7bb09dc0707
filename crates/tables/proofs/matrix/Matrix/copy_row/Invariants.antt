use Rattle.std.proofs.Common.{◌≡◌}
use Rattle.limits.specs.Tightening.{matrix}
use Rattle.tables.specs.Storage.{RowCopied}
use Rattle.tables.proofs.matrix.Matrix.copy_row.Given as goal

abbrev pub invariant-loop-column : goal.invariant-loop-column
invariant-loop-column g l = record {
  clocks : l.self.clocks ≡ l.initial.self.clocks;
  limits : RowCopied l.initial.self.clocks (matrix g.L.Limit l.initial.self.limits) (matrix g.L.Limit l.self.limits) l.clock l.column;
}
