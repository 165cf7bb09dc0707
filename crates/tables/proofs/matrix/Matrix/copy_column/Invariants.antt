use Rattle.std.proofs.Common.{◌≡◌}
use Rattle.limits.specs.Tightening.{matrix}
use Rattle.tables.specs.Storage.{ColumnCopied}
use Rattle.tables.proofs.matrix.Matrix.copy_column.Given as goal

abbrev pub invariant-loop-row : goal.invariant-loop-row
invariant-loop-row g l = record {
  clocks : l.self.clocks ≡ l.initial.self.clocks;
  limits : ColumnCopied l.initial.self.clocks (matrix g.L.Limit l.initial.self.limits) (matrix g.L.Limit l.self.limits) l.clock l.row;
}
