-- Two values that say the same are one. Assumes nothing.
use Rattle.std.proofs.Common.{◌≡◌, ◌≤◌, nat_abs}
use mathlib.Core.HLevel.{is_prop→PathP}
use native.Mathlib.Bridge.{le_prop}
use Rattle.differences.specs.declared.ticks.Ticks.{Ticks}

pub same_ticks : (a b : Ticks) → a.count ≡ b.count → a ≡ b
same_ticks a b e = λ i. record { count = e i; bounded = is_prop→PathP (λ j. nat_abs (e j) ≤ 4000000000) (λ j. le_prop) a.bounded b.bounded i }
