use Rattle.std.proofs.Common.{◌+◌, ◌*◌, replicate, ap, ◌∙◌, arith}
use Rattle.std.proofs.lemmas.List.{get_or-map, get_or-replicate}
use Rattle.differences.specs.Bounds.{none}
use Rattle.tables.proofs.matrix.Matrix.zeros.Goals as goal

pub returns-clause-limits : goal.returns-clause-limits
returns-clause-limits g c = λ i j h k. let x = c.zero.result in get_or-map g.L.Limit.bound (replicate 64 x) (i * 8 + j) x none (omega arith) ∙ ap g.L.Limit.bound (get_or-replicate 64 (i * 8 + j) x x (omega arith)) ∙ c.zero.ensures
