-- What the methods of a limit answer. Assumes nothing.
use Rattle.std.specs.Prelude.{◌≡◌, Bool, false, ℤ, Some, None, Ok, Err, Option, Result}
use Rattle.differences.specs.Bounds.{Bound, none, upto}

-- a limit, if there is one, says b
abbrev pub Bounds : {L E : Type 0} → (L → Bound) → Bound → Result L E → Type 0
Bounds bound b (Ok l) = bound l ≡ b
Bounds bound b (Err e) = Unit {0}

abbrev pub number_of : Bound → Option ℤ
number_of none = None
number_of (upto z strict) = Some z

abbrev pub strict_of : Bound → Bool
strict_of none = false
strict_of (upto z strict) = strict
