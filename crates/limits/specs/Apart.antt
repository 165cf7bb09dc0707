-- No two limits of the code say the same. Assumes nothing.
use Rattle.std.proofs.Common.{◌≡◌, ℕ, refl, ap, arith}
use Rattle.differences.proofs.Same.{same_ticks}
use Rattle.limits.specs.Kinds.{is_less, of_fine, of_whole}
use Rattle.limits.specs.declared.fine.Mark.{Mark}
use Rattle.limits.specs.declared.fine.Mark.TheVariants.{Less, AtMost}
use Rattle.limits.specs.declared.fine.FineLimit.{FineLimit}
use Rattle.limits.specs.declared.fine.FineLimit.TheVariants as fine
use Rattle.limits.specs.declared.whole.WholeLimit.{WholeLimit}
use Rattle.limits.specs.declared.whole.WholeLimit.TheVariants as whole

one_mark : (s t : Mark) → is_less s ≡ is_less t → s ≡ t
one_mark Less Less e = refl
one_mark AtMost AtMost e = refl
one_mark Less AtMost e = let z : ◌≡◌ {A = ℕ} 0 1 = cc in absurd (omega arith)
one_mark AtMost Less e = let z : ◌≡◌ {A = ℕ} 0 1 = cc in absurd (omega arith)

pub one_fine : (a b : FineLimit) → of_fine a ≡ of_fine b → a ≡ b
one_fine fine.Free fine.Free e = refl
one_fine fine.Free (fine.Bound b t) e = let z : ◌≡◌ {A = ℕ} 0 1 = cc in absurd (omega arith)
one_fine (fine.Bound a s) fine.Free e = let z : ◌≡◌ {A = ℕ} 0 1 = cc in absurd (omega arith)
one_fine (fine.Bound a s) (fine.Bound b t) e =
    let f : a.count ≡ b.count = cc in
    let g : is_less s ≡ is_less t = cc in
    λ i. fine.Bound (same_ticks a b f i) (one_mark s t g i)

pub one_whole : (a b : WholeLimit) → of_whole a ≡ of_whole b → a ≡ b
one_whole whole.Free whole.Free e = refl
one_whole whole.Free (whole.Bound b) e = let z : ◌≡◌ {A = ℕ} 0 1 = cc in absurd (omega arith)
one_whole (whole.Bound a) whole.Free e = let z : ◌≡◌ {A = ℕ} 0 1 = cc in absurd (omega arith)
one_whole (whole.Bound a) (whole.Bound b) e = let f : a.count ≡ b.count = cc in ap whole.Bound (same_ticks a b f)
