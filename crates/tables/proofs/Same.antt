-- Two tables of one matrix are one. Assumes nothing.
use Rattle.std.proofs.Common.{◌≡◌}
use Rattle.std.proofs.Props.{props}
use mathlib.Core.HLevel.{is_prop→PathP}
use Rattle.limits.specs.declared.limit.Limit.{Ghosts}
use Rattle.differences.specs.Matrix.{entry}
use Rattle.tables.specs.Matrices.{Sound}
use Rattle.tables.specs.declared.matrix_table.MatrixTable.{MatrixTable}

pub same_table : {L : Type 0} {D : Ghosts L} (s t : MatrixTable L D) → s.matrix ≡ t.matrix → s ≡ t
same_table {L} {D} s t e = λ i. record { matrix = e i; sound = is_prop→PathP (λ j. ∥ Sound D.time 1000000000 (e j).clocks (entry D.bound (e j).limits) ∥₁) (λ j. hlevel props) s.sound t.sound i }
