-- One limit more, in the loops that write limits. Assumes nothing.
use Rattle.std.proofs.Common.{◌≡◌, ℕ, ◌+◌, ◌≤◌, arith}
use Rattle.differences.specs.Bounds.{Bound}
use Rattle.limits.specs.Tightening.{Written}
use Rattle.tables.specs.Storage.{RowCopied}

pub row_copied_next : {n x j m : ℕ} {old M N : ℕ → ℕ → Bound} {b : Bound} → n ≤ 7 → 1 ≤ x → x ≤ n → j ≤ n → m ≡ j + 1 → Written 7 M N x j b → b ≡ M 0 j → RowCopied n old M x j → RowCopied n old N x m
row_copied_next few some hx hj e w is inv = record { done = λ q h. grind arith; rest = λ p q h k d. grind arith }
