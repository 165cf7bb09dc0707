-- Readings of clocks: fractions of a tick that share a cut. Assumes nothing.
use Rattle.std.specs.Prelude.{◌≡◌, ℕ, ◌+◌, ◌-◌, ◌*◌, List, ◌∷◌, map, length, ℤ, pos, ◌-ℤ◌, slice_index, slice_set}
use Rattle.differences.specs.Bounds.{Time, Cut}

-- a tick is cut into `cut` parts, and each clock shows a number of parts
pub record Reading : Type 0 where
  pub cut : ℕ
  pub parts : List ℕ

-- what clock i shows, in parts; clock 0 always shows zero
abbrev pub shows : Reading → ℕ → ℕ
shows r i = slice_index (0 ∷ r.parts) i

-- what clock i shows less what clock j shows, in parts
abbrev pub difference : Reading → ℕ → ℕ → ℤ
difference r i j = pos (shows r i) -ℤ pos (shows r j)

-- a reading of n clocks in a kind of time
abbrev pub Sized : Time → ℕ → Reading → Type 0
Sized time n r = Cut time r.cut × (length r.parts ≡ n)

-- each clock shows the same fraction of a tick: the two are one reading
abbrev pub SameReading : Reading → Reading → Type 0
SameReading r s = (length r.parts ≡ length s.parts) × ((i : ℕ) → shows r i * s.cut ≡ shows s i * r.cut)

-- d parts later
abbrev pub later : ℕ → Reading → Reading
later d r = record { cut = r.cut; parts = map (λ x. x + d) r.parts }

-- with clock x, of the clocks from 1 on, at zero
abbrev pub zeroed : ℕ → Reading → Reading
zeroed x r = record { cut = r.cut; parts = slice_set r.parts (x - 1) 0 }
