-- That a matrix is sound can be had back from a ghost field, since it holds in one way only. Assumes nothing.
use Rattle.std.specs.Prelude.{ℕ, true}
use Rattle.std.proofs.Math.Bool.{Bool-set}
use Rattle.std.proofs.Math.Logic.{∥∥₁_elim}
use Rattle.std.proofs.Math.Bridge.{le_prop}
use Rattle.std.proofs.Math.IntN.{ℤ_set}
use Rattle.differences.specs.Bounds.{Bound, bound_set, Time, at_most, add, nought, arithmetic}
use Rattle.differences.specs.Matrix.{Closed}
use Rattle.tables.specs.Matrices.{Shaped, Sound}

closed_prop : (time : Time) (n : ℕ) (M : ℕ → ℕ → Bound) → IsProp (Closed (arithmetic time) n M)
closed_prop time n M x y = λ t. record {
  diagonal = λ i h. bound_set ℤ_set Bool-set (M i i) nought (x.diagonal i h) (y.diagonal i h) t;
  triangle = λ i l j g h k. Bool-set (at_most (M i j) (add (M i l) (M l j))) true (x.triangle i l j g h k) (y.triangle i l j g h k) t;
}

shaped_prop : (time : Time) (n : ℕ) (M : ℕ → ℕ → Bound) → IsProp (Shaped time n M)
shaped_prop time n M x y = λ t. record {
  closed = closed_prop time n M x.closed y.closed t;
  natural = λ j h. Bool-set (at_most (M 0 j) nought) true (x.natural j h) (y.natural j h) t;
}

sound_prop : (time : Time) (reach n : ℕ) (M : ℕ → ℕ → Bound) → IsProp (Sound time reach n M)
sound_prop time reach n M x y = λ t. record {
  few = le_prop x.few y.few t;
  shaped = shaped_prop time n M x.shaped y.shaped t;
  near = λ i j g h. le_prop (x.near i j g h) (y.near i j g h) t;
}

pub recovered : {time : Time} {reach n : ℕ} {M : ℕ → ℕ → Bound} → ∥ Sound time reach n M ∥₁ → Sound time reach n M
recovered {time} {reach} {n} {M} s = ∥∥₁_elim s (sound_prop time reach n M) (λ x. x)
