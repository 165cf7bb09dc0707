-- Cases worked out from the rules. Assumes nothing.
use Rattle.std.specs.Prelude.{◌≡◌, ℕ, true, false, ◌↔◌, ℤ, pos, ◌+ℤ◌, ◌-ℤ◌, ◌*ℤ◌}
use Rattle.differences.specs.Bounds.{upto, add, Time, fine, whole}
use Rattle.limits.specs.Comparisons.{Compares}
use Rattle.limits.specs.declared.comparison.Comparison.{Comparison}
use Rattle.limits.specs.declared.comparison.Comparison.TheVariants.{Less, AtMost, Greater, AtLeast}
use Rattle.tables.specs.Readings.{Reading, Sized, shows}

-- in reading r clock x compares so with c ticks
abbrev pub Shown : Reading → ℕ → Comparison → ℤ → Type 0
Shown r x comparison c = Compares comparison (pos (shows r x)) (c *ℤ pos r.cut)

-- r shows one clock, above 1 second and below 1.001 seconds
abbrev pub Between : Time → Reading → Type 0
Between time r = Sized time 1 r × Shown r 1 Greater (pos 1000) × Shown r 1 Less (pos 1001)

pub record Tried : Type 0 where
  pub sum : add (upto (pos 2) false) (upto (pos 3) true) ≡ upto (pos 5) true
  pub between_fine : (r : Reading) × Between fine r
  pub between_whole : (r : Reading) → Between whole r → ⊥
  -- whole time reads x<c as x<=c-1, and x>c as x>=c+1
  pub less_whole : (n x : ℕ) (c : ℤ) (r : Reading) → Sized whole n r → Shown r x Less c ↔ Shown r x AtMost (c -ℤ pos 1)
  pub greater_whole : (n x : ℕ) (c : ℤ) (r : Reading) → Sized whole n r → Shown r x Greater c ↔ Shown r x AtLeast (c +ℤ pos 1)
