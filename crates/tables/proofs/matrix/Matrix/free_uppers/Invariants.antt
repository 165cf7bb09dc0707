use Rattle.std.proofs.Common.{◌≡◌}
use Rattle.differences.specs.Bounds.{none}
use Rattle.limits.specs.Tightening.{matrix}
use Rattle.tables.specs.Storage.{Freed}
use Rattle.tables.proofs.matrix.Matrix.free_uppers.Given as goal

abbrev pub invariant-loop-clock : goal.invariant-loop-clock
invariant-loop-clock g l = record {
  clocks : l.self.clocks ≡ l.initial.self.clocks;
  limits : Freed l.initial.self.clocks (matrix g.L.Limit l.initial.self.limits) (matrix g.L.Limit l.self.limits) none l.clock;
}
