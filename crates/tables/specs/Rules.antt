-- Which refusal a call of a table gets. Assumes nothing.
use Rattle.std.specs.Prelude.{◌≡◌, ℕ, ◌<◌, ◌⊎◌, ℤ, pos, ◌<ℤ◌}
use Rattle.std.proofs.Math.Option.{Option}
use Rattle.differences.specs.Bounds.{Time}
use Rattle.differences.specs.Refusals.{Refused, Accepted}
use Rattle.limits.specs.declared.comparison.Comparison.{Comparison}
use Rattle.tables.specs.Readings.{Reading}
use Rattle.tables.specs.Sets.{Under, None, Far}

-- x is not one of the clocks 1 to n
abbrev pub NoClock : ℕ → ℕ → Type 0
NoClock n x = (x ≡ 0) ⊎ (n < x)

-- not from 0 to 16,000,000 ticks
abbrev pub Outside : ℤ → Type 0
Outside c = (c <ℤ pos 0) ⊎ (pos 16000000 <ℤ c)

-- more clocks than seven
abbrev pub Starting : ℕ → Option ℕ → Type 0
Starting n = Refused 20 (7 < n) Accepted

-- narrowing the set P of readings of n clocks, in a table of that reach
abbrev pub Narrowing : Time → ℕ → ℕ → (Reading → Type 0) → ℕ → Comparison → ℤ → Option ℕ → Type 0
Narrowing time reach n P x comparison c =
    Refused 20 (NoClock n x)
    (Refused 5 (Outside c)
    (Refused 15 (None (Under x comparison c P))
    (Refused 16 (Far time reach n (Under x comparison c P))
    Accepted)))

abbrev pub Resetting : ℕ → ℕ → Option ℕ → Type 0
Resetting n x = Refused 20 (NoClock n x) Accepted

-- clock 0 is told of as well
abbrev pub Telling : ℕ → ℕ → ℕ → Option ℕ → Type 0
Telling n row column = Refused 20 ((n < row) ⊎ (n < column)) Accepted
