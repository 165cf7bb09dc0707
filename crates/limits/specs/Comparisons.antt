-- What a comparison says of two numbers. Assumes nothing.
use Rattle.std.specs.Prelude.{ℤ, ◌≤ℤ◌, ◌<ℤ◌}
use Rattle.limits.specs.declared.comparison.Comparison.{Comparison}
use Rattle.limits.specs.declared.comparison.Comparison.TheVariants.{Less, AtMost, Greater, AtLeast}

abbrev pub Compares : Comparison → ℤ → ℤ → Type 0
Compares Less a b = a <ℤ b
Compares AtMost a b = a ≤ℤ b
Compares Greater a b = b <ℤ a
Compares AtLeast a b = b ≤ℤ a
