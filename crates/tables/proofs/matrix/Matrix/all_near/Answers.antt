use Rattle.std.proofs.Common.{ℕ, ◌+◌, ◌<◌, ◌≤◌, inr, refl, arith, below_more}
use mathlib.Core.Option.{none}
use Rattle.differences.specs.Bounds.{Bound, size}
use Rattle.differences.specs.Refusals.{Refused, Accepted}
use Rattle.differences.proofs.Refusing.{refused_none}
use Rattle.limits.specs.Tightening.{matrix}
use Rattle.tables.proofs.matrix.Matrix.all_near.Goals as goal

not_above : (a b : ℕ) → (a < b → ⊥) → b ≤ a
not_above a b n = omega arith

-- one row more is near, since it was not refused
near_more : (n row reach : ℕ) (M : ℕ → ℕ → Bound) → ((p : ℕ) → p < row → (q : ℕ) → q ≤ n → size (M p q) ≤ reach) → Refused 16 ((j : ℕ) × (j ≤ n) × (reach < size (M row j))) Accepted none → (p : ℕ) → p < row + 1 → (q : ℕ) → q ≤ n → size (M p q) ≤ reach
near_more n row reach M above r = below_more (λ p. (q : ℕ) → q ≤ n → size (M p q) ≤ reach) row above (λ q k. not_above reach (size (M row q)) (λ l. refused_none ((j : ℕ) × (j ≤ n) × (reach < size (M row j))) r (q, k, l)))

pub loop-row-preserved : goal.loop-row-preserved
loop-row-preserved g c = near_more c.args.self.now.clocks c.loop-row.row c.args.reach (matrix g.L.Limit c.args.self.now.limits) c.loop-row.invariant c.in_ok-row_near.ensures

pub returns-in_ok-row_near : goal.returns-in_ok-row_near
returns-in_ok-row_near g c =
    let all = near_more c.args.self.now.clocks c.loop-row.row c.args.reach (matrix g.L.Limit c.args.self.now.limits) c.loop-row.invariant c.in_ok-row_near.ensures in
    inr (λ o. let h = all o.0 (omega arith) o.1 o.3 in omega (arith, h, o.4), refl)
