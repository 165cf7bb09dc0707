-- What the limits of the code say. Assumes nothing.
use Rattle.std.specs.Prelude.{Bool, true, false}
use Rattle.differences.specs.Bounds.{Bound, none, upto}
use Rattle.limits.specs.declared.fine.FineLimit.{FineLimit}
use Rattle.limits.specs.declared.fine.Mark.{Mark}
use Rattle.limits.specs.declared.fine.Mark.TheVariants.{Less, AtMost}
use Rattle.limits.specs.declared.fine.FineLimit.TheVariants as fine
use Rattle.limits.specs.declared.whole.WholeLimit.{WholeLimit}
use Rattle.limits.specs.declared.whole.WholeLimit.TheVariants as whole

abbrev pub is_less : Mark → Bool
is_less Less = true
is_less AtMost = false

abbrev pub of_fine : FineLimit → Bound
of_fine fine.Free = none
of_fine (fine.Bound ticks mark) = upto ticks.count (is_less mark)

abbrev pub of_whole : WholeLimit → Bound
of_whole whole.Free = none
of_whole (whole.Bound ticks) = upto ticks.count false
