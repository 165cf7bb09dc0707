-- The laws of the limits themselves, wherever no sum is refused. D says what limits mean. Assumes nothing.
use Rattle.std.specs.Prelude.{◌≡◌, ℕ, ◌*◌, true, ◌⊎◌, ◌↔◌, ℤ, pos, ◌-ℤ◌, ◌*ℤ◌}
use Rattle.differences.specs.Bounds.{Cut, at_most, add, nought, IsMet, finer}
use Rattle.limits.specs.declared.limit.Limit.{Ghosts}

module _ {L : Type 0} (D : Ghosts L) where
  abbrev pub AtMost : L → L → Type 0
  AtMost a b = at_most (D.bound a) (D.bound b) ≡ true

  -- c is what the sum of a and b answers, where it is not refused
  abbrev pub IsSum : L → L → L → Type 0
  IsSum a b c = D.bound c ≡ add (D.bound a) (D.bound b)

  -- a difference of p parts of the cut k keeps the limit a
  abbrev pub Kept : L → ℤ → ℕ → Type 0
  Kept a p k = IsMet (D.bound a) p k

  pub record LimitLaws : Type 0 where
    pub total : (a b : L) → AtMost a b ⊎ AtMost b a
    pub antisymmetric : (a b : L) → AtMost a b → AtMost b a → a ≡ b
    pub transitive : (a b c : L) → AtMost a b → AtMost b c → AtMost a c
    pub associative : (a b c ab bc x y : L) → IsSum a b ab → IsSum ab c x → IsSum b c bc → IsSum a bc y → x ≡ y
    pub commutative : (a b x y : L) → IsSum a b x → IsSum b a y → x ≡ y
    pub monotone : (a a' b b' x y : L) → AtMost a a' → AtMost b b' → IsSum a b x → IsSum a' b' y → AtMost x y
    pub neutral : (z a : L) → D.bound z ≡ nought → IsSum z a a
    -- a difference keeps a sum exactly when it splits into two, one keeping each limit
    pub splitting : (a b c : L) → IsSum a b c → (p : ℤ) (k : ℕ) → Cut D.time k → Kept c p k ↔ ((q : ℤ) × Kept a q (finer D.time * k) × Kept b (pos (finer D.time) *ℤ p -ℤ q) (finer D.time * k))
    -- one limit is at most another exactly when all that keeps it keeps the other
    pub at_most_is : (a b : L) → AtMost a b ↔ ((p : ℤ) (k : ℕ) → Cut D.time k → Kept a p k → Kept b p k)
