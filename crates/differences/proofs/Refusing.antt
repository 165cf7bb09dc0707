-- What a call's refusal, or its answer, tells of the conditions for refusing. Assumes nothing.
use Rattle.std.proofs.Common.{◌≡◌, ℕ, sym, inl, inr}
use mathlib.Core.Option.{none, some, none-ne-some}
use Rattle.differences.specs.Refusals.{Refused, Accepted}

-- a call with one refusal was refused: its condition holds, and its number is told
pub refused_some : {m n : ℕ} (C : Type 0) → Refused n C Accepted (some m) → C × (some m ≡ some n)
refused_some C (inl h) = h
refused_some C (inr h) = absurd (none-ne-some _ (sym h.1))

-- it was not refused: the condition does not hold
pub refused_none : {n : ℕ} (C : Type 0) → Refused n C Accepted none → C → ⊥
refused_none C (inl h) = absurd (none-ne-some _ h.1)
refused_none C (inr h) = h.0
