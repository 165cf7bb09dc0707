-- The tried cases follow from the rules. Assumes nothing.
use Rattle.std.proofs.Common.{◌≡◌, ℕ, [], ◌∷◌, ℤ, pos, ◌+ℤ◌, ◌-ℤ◌, ◌*ℤ◌, sym, refl, subst, arith}
use Rattle.std.proofs.lemmas.Int.{ints}
use Rattle.tables.specs.Readings.{Reading}
use Rattle.walkthrough.specs.Tried.{Tried}

-- at the cut 1 a number of ticks is a number of parts
ticks : (c : ℤ) (k : ℕ) → k ≡ 1 → c *ℤ pos k ≡ c
ticks c k e = subst (λ h. c *ℤ pos h ≡ c) (sym e) (omega (arith, ints))

-- 2,001 halves of a tick
half_past : Reading
half_past = record { cut = 2; parts = 2001 ∷ [] }

pub tried : Tried
unfolding half_past
tried = record {
  sum = refl;
  between_fine = (half_past, ((omega arith, refl), omega (arith, ints), omega (arith, ints)));
  between_whole = λ r h. let a = ticks (pos 1000) r.cut h.0.0 in let b = ticks (pos 1001) r.cut h.0.0 in let g = h.1 in let l = h.2 in omega (arith, ints);
  less_whole = λ n x c r s. let a = ticks c r.cut s.0 in let b = ticks (c -ℤ pos 1) r.cut s.0 in (λ h. omega (arith, ints), λ h. omega (arith, ints));
  greater_whole = λ n x c r s. let a = ticks c r.cut s.0 in let b = ticks (c +ℤ pos 1) r.cut s.0 in (λ h. omega (arith, ints), λ h. omega (arith, ints));
}
