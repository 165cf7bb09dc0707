-- An integer that is multiplied by a number. Assumes nothing.
use Rattle.std.proofs.Common.{◌≡◌, ℕ, suc, ◌*◌, ◌≤◌, ℤ, pos, negsuc, ◌+ℤ◌, ◌-ℤ◌, ◌*ℤ◌, neg_ℤ, ◌≤ℤ◌, ◌<ℤ◌, ap, mul_assoc, mul-le-mul_left, arith}
use borrow.Author.Differences.{up, down, sum_is_lem, neg_is, same_in, same_out, at_most_in, below_in, le_out, lt_out}

pub times_pos : (z : ℤ) (k : ℕ) → (up (z *ℤ pos k) ≡ up z * k) × (down (z *ℤ pos k) ≡ down z * k)
times_pos (pos a) k = omega arith
times_pos (negsuc a) k = omega (arith, neg_is (pos (suc a * k)))

pub pos_times : (m : ℕ) (z : ℤ) → (up (pos m *ℤ z) ≡ m * up z) × (down (pos m *ℤ z) ≡ m * down z)
pos_times m (pos a) = omega arith
pos_times m (negsuc a) = omega (arith, neg_is (pos (m * suc a)))

pub ruleset prods = (same_in, at_most_in, below_in, le_out, lt_out, same_out, sum_is_lem, neg_is, times_pos, pos_times)

pub spread : (m : ℕ) (p q : ℤ) → pos m *ℤ (p -ℤ q) ≡ pos m *ℤ p -ℤ pos m *ℤ q
spread m p q = let e = ap (λ x. m * x) (sum_is_lem p (neg_ℤ q)) in let g = ap (λ x. m * x) (neg_is q).0 in let h = ap (λ x. m * x) (neg_is q).1 in omega (arith, prods)

pub regroup : (m k : ℕ) (p : ℤ) → pos m *ℤ (pos k *ℤ p) ≡ pos (m * k) *ℤ p
regroup m k p =
    let t = pos_times k p in
    let e = ap (λ x. m * x) t.0 in
    let g = ap (λ x. m * x) t.1 in
    omega (arith, prods, mul_assoc m k (up p), mul_assoc m k (down p))

pub times_regroup : (z : ℤ) (m k : ℕ) → z *ℤ pos (m * k) ≡ pos m *ℤ (z *ℤ pos k)
times_regroup z m k = let t = times_pos z k in let a = ap (λ x. m * x) t.0 in let b = ap (λ x. m * x) t.1 in omega (arith, prods)

pub times_spread : (n m : ℤ) (k : ℕ) → (n +ℤ m) *ℤ pos k ≡ n *ℤ pos k +ℤ m *ℤ pos k
times_spread n m k = let e = ap (λ x. x * k) (sum_is_lem n m) in omega (arith, prods)

pub times_negated : (z : ℤ) (k : ℕ) → neg_ℤ z *ℤ pos k ≡ neg_ℤ (z *ℤ pos k)
times_negated z k = let e = ap (λ x. x * k) (neg_is z).0 in let f = ap (λ x. x * k) (neg_is z).1 in omega (arith, prods)

pub times_le : (m : ℕ) (p q : ℤ) → p ≤ℤ q → (pos m *ℤ p) ≤ℤ (pos m *ℤ q)
times_le m p q h = omega (arith, prods, mul-le-mul_left m (le_out p q h))

pub some_times : (m n : ℕ) → 1 ≤ m → 1 ≤ n → 1 ≤ m * n
some_times m n g h = omega (arith, mul-le-mul_left m h)

pub times_negative : (m k : ℕ) (p : ℤ) → p ≤ℤ pos 0 → (pos m *ℤ p) ≤ℤ (pos k *ℤ pos 0)
times_negative m k p h = let l = times_le m p (pos 0) h in omega (arith, prods)

pub turned : (m k : ℕ) (p a b : ℤ) → (pos k *ℤ (a -ℤ b)) <ℤ (pos m *ℤ p) → (pos m *ℤ (pos 0 -ℤ p)) ≤ℤ (pos k *ℤ (b -ℤ a))
turned m k p a b h = rw (spread m (pos 0) p, spread k b a) (let l = rw (spread k a b) at h in omega (arith, prods))
