-- The limits of either kind of time have the laws. Assumes nothing.
use Rattle.std.proofs.Common.{◌≡◌, ℕ, ◌+◌, ◌*◌, ◌≤◌, max, Bool, true, false, ◌||◌, ◌⊎◌, ◌↔◌, ℤ, pos, ◌+ℤ◌, ◌-ℤ◌, ◌*ℤ◌, ◌≤ℤ◌, ◌<ℤ◌, sym, refl, ap, ap₂, inl, inr, mul-le-mul_left, arith}
use native.Mathlib.Nat.{le_of_mul-le-mul_left, lt_of_mul-lt-mul_left}
use native.Mathlib.Decide.{dec_le}
use lib.IntN.{*ℤ_comm, +ℤ_comm, +ℤ_assoc}
use borrow.Author.Differences.{ints, up, down, sum_is_lem, at_most_in, below_in, le_out, lt_out}
use Rattle.std.proofs.lemmas.Bool.{both_ways}
use Rattle.differences.specs.Laws.{Laws}
use Rattle.differences.specs.Bounds.{Bound, none, upto, Below, IsMet, under, at_most, add, nought, Time, fine, whole, Cut, finer, Proper, less_than, arithmetic}
use Rattle.differences.proofs.Products.{prods, times_regroup, times_spread}

-- ---- `<` takes away a half: each comparison is one of doubled numbers
abbrev half : Bool → ℕ
half true = 1
half false = 0

half_small : (s : Bool) → half s ≤ 1
half_small true = omega arith
half_small false = omega arith

half_or : (s t : Bool) → half (s || t) ≡ max (half s) (half t)
half_or true t = omega (arith, half_small t)
half_or false t = omega arith

same_half : (s t : Bool) → half s ≡ half t → s ≡ t
same_half true true e = refl
same_half true false e = absurd (omega arith)
same_half false true e = absurd (omega arith)
same_half false false e = refl

keeps_out : (s : Bool) (p z : ℤ) → Below s p z → 2 * (up p + down z) + half s ≤ 2 * (up z + down p)
keeps_out true p z h = omega (arith, ints)
keeps_out false p z h = omega (arith, ints)

keeps_in : (s : Bool) (p z : ℤ) → 2 * (up p + down z) + half s ≤ 2 * (up z + down p) → Below s p z
keeps_in true p z h = omega (arith, ints)
keeps_in false p z h = omega (arith, ints)

under_out : (s t : Bool) (n m : ℤ) → under s t n m ≡ true → 2 * (up n + down m) + half t ≤ 2 * (up m + down n) + half s
under_out true true n m e = omega (arith, ints)
under_out true false n m e = omega (arith, ints)
under_out false true n m e = omega (arith, ints)
under_out false false n m e = omega (arith, ints)

under_in : (s t : Bool) (n m : ℤ) → 2 * (up n + down m) + half t ≤ 2 * (up m + down n) + half s → under s t n m ≡ true
under_in true true n m e = sym (omega (arith, ints))
under_in true false n m e = sym (omega (arith, ints))
under_in false true n m e = sym (omega (arith, ints))
under_in false false n m e = sym (omega (arith, ints))

ruleset halves = (prods, half_small, half_or, keeps_out, keeps_in, under_out, under_in)

-- none is at most no number
beyond : {X : Type 0} → ◌≡◌ {A = Bool} false true → X
beyond e = absurd (both_ways false refl e)

-- ---- the order and the sum
total : (a b : Bound) → (at_most a b ≡ true) ⊎ (at_most b a ≡ true)
total none none = inl refl
total none (upto m t) = inr refl
total (upto n s) none = inl refl
total (upto n s) (upto m t) = elim (dec_le (2 * (up n + down m) + half t) (2 * (up m + down n) + half s)) [ yes h ↦ inl (under_in s t n m h) | no h ↦ inr (under_in t s m n (omega arith)) ]

trans : (a b c : Bound) → at_most a b ≡ true → at_most b c ≡ true → at_most a c ≡ true
trans none none none g h = refl
trans none none (upto o u) g h = h
trans none (upto m t) none g h = refl
trans none (upto m t) (upto o u) g h = g
trans (upto n s) b none g h = refl
trans (upto n s) none (upto o u) g h = beyond h
trans (upto n s) (upto m t) (upto o u) g h = omega (arith, halves)

antisym : (a b : Bound) → at_most a b ≡ true → at_most b a ≡ true → a ≡ b
antisym none none g h = refl
antisym none (upto m t) g h = beyond g
antisym (upto n s) none g h = beyond h
antisym (upto n s) (upto m t) g h = ap₂ upto (omega (arith, halves)) (same_half s t (omega (arith, halves)))

top : (a : Bound) → at_most a none ≡ true
top none = refl
top (upto n s) = refl

assoc : (a b c : Bound) → add (add a b) c ≡ add a (add b c)
assoc none b c = refl
assoc (upto n s) none c = refl
assoc (upto n s) (upto m t) none = refl
assoc (upto n s) (upto m t) (upto o u) = ap₂ upto (+ℤ_assoc n m o) (same_half (s || t || u) (s || (t || u)) (omega (arith, halves)))

comm : (a b : Bound) → add a b ≡ add b a
comm none none = refl
comm none (upto m t) = refl
comm (upto n s) none = refl
comm (upto n s) (upto m t) = ap₂ upto (+ℤ_comm n m) (same_half (s || t) (t || s) (omega (arith, halves)))

mono : (a a' b b' : Bound) → at_most a a' ≡ true → at_most b b' ≡ true → at_most (add a b) (add a' b') ≡ true
mono a none b b' g h = top (add a b)
mono a (upto n' s') b none g h = top (add a b)
mono none (upto n' s') b (upto m' t') g h = beyond g
mono (upto n s) (upto n' s') none (upto m' t') g h = beyond h
mono (upto n s) (upto n' s') (upto m t) (upto m' t') g h = omega (arith, halves)

neutral : (a : Bound) → add nought a ≡ a
neutral none = refl
neutral (upto n s) = ap (λ z. upto z s) (omega (arith, ints))

-- ---- what keeps a limit
zero_or_less : (p : ℤ) (k : ℕ) → IsMet nought p k ↔ (p ≤ℤ pos 0)
zero_or_less p k = (λ h. omega (arith, prods), λ h. omega (arith, prods))

lower : (a : Bound) (p' p : ℤ) (k : ℕ) → p' ≤ℤ p → IsMet a p k → IsMet a p' k
lower none p' p k h g = tt
lower (upto n s) p' p k h g = omega (arith, halves)

times : (s : Bool) (p z : ℤ) (m : ℕ) → 1 ≤ m → Below s p z ↔ Below s (pos m *ℤ p) (pos m *ℤ z)
times true p z m some = (λ h. omega (arith, prods, mul-le-mul_left m (lt_out p z h)), λ h. below_in p z (lt_of_mul-lt-mul_left m (omega (arith, prods))))
times false p z m some = (λ h. omega (arith, prods, mul-le-mul_left m (le_out p z h)), λ h. at_most_in p z (le_of_mul-le-mul_left {k = m} (omega (arith, prods)) some))

scale : (a : Bound) (p : ℤ) (k m : ℕ) → 1 ≤ m → IsMet a p k ↔ IsMet a (pos m *ℤ p) (m * k)
scale none p k m some = (λ h. tt, λ h. tt)
scale (upto n s) p k m some = rw (times_regroup n m k) (times s p (n *ℤ pos k) m some)

-- what keeps a limit keeps each limit above it
wider : (a b : Bound) (p : ℤ) (k : ℕ) → 1 ≤ k → at_most a b ≡ true → IsMet a p k → IsMet b p k
wider none none p k some e h = tt
wider none (upto m t) p k some e h = beyond e
wider (upto n s) none p k some e h = tt
wider (upto n true) (upto m t) p k some e h = let f = (times false n m k some).0 (omega (arith, halves)) in omega (arith, halves)
wider (upto n false) (upto m t) p k some e h = let f = (times t n m k some).0 (omega (arith, halves)) in omega (arith, halves)

-- ---- the kind of time
finer_some : (time : Time) → 1 ≤ finer time
finer_some fine = omega arith
finer_some whole = omega arith

cut_one : (time : Time) → Cut time 1
cut_one fine = omega arith
cut_one whole = refl

cut_self : (time : Time) → Cut time (finer time)
cut_self fine = omega arith
cut_self whole = refl

cut_some : (time : Time) (k : ℕ) → Cut time k → 1 ≤ k
cut_some fine k c = c
cut_some whole k c = omega arith

cut_finer : (time : Time) (k : ℕ) → Cut time k → Cut time (finer time * k)
cut_finer fine k c = omega arith
cut_finer whole k c = omega arith

-- the greatest difference, at the finer cut, that keeps a limit with the number z
abbrev edge : Time → Bool → ℤ → ℤ
edge time s z = pos (finer time) *ℤ z -ℤ pos (half s)

edge_keeps : (time : Time) (s : Bool) (z : ℤ) → Below s (edge time s z) (pos (finer time) *ℤ z)
edge_keeps fine s z = omega (arith, halves)
edge_keeps whole s z = omega (arith, halves)

-- where the edge keeps the other limit, that limit is no smaller
edge_under : (time : Time) (s t : Bool) (n m : ℤ) → Proper time (upto n s) → Proper time (upto m t) → Below t (edge time s n) (m *ℤ pos (finer time)) → under s t n m ≡ true
edge_under fine s t n m e f h = omega (arith, halves)
edge_under whole s t n m e f h = omega (arith, halves, ap half e, ap half f)

-- what keeps a sum splits at the edge of the one limit
parts : (time : Time) (s t : Bool) (p n m a b : ℤ) → Proper time (upto n s) → Proper time (upto m t) → Below (s || t) p (a +ℤ b) → Below t (pos (finer time) *ℤ p -ℤ edge time s a) (pos (finer time) *ℤ b)
parts fine s t p n m a b e f h = omega (arith, halves)
parts whole s t p n m a b e f h = omega (arith, halves, ap half e, ap half f)

-- and two that keep the limits join to one that keeps the sum
joins : (s t : Bool) (p q a b : ℤ) (m : ℕ) → 1 ≤ m → Below s q (pos m *ℤ a) → Below t (pos m *ℤ p -ℤ q) (pos m *ℤ b) → Below (s || t) p (a +ℤ b)
joins s t p q a b m some g h = (times (s || t) p (a +ℤ b) m some).1 (omega (arith, halves, ap (λ x. m * x) (sum_is_lem a b)))

-- some difference keeps a limit
less_keeps : (s : Bool) (z : ℤ) → Below s (z -ℤ pos 1) z
less_keeps s z = omega (arith, halves)

-- and some does not
above : (t : Bool) (z : ℤ) → Below t (z +ℤ pos 1) (z *ℤ pos 1) → ⊥
above t z h = omega (arith, halves)

away : (p z : ℤ) → p -ℤ (p -ℤ z) ≡ z
away p z = omega (arith, ints)

splits : (time : Time) (a b : Bound) (p : ℤ) (k : ℕ) → Proper time a → Proper time b → IsMet (add a b) p k ↔ ((q : ℤ) × IsMet a q (finer time * k) × IsMet b (pos (finer time) *ℤ p -ℤ q) (finer time * k))
splits time none none p k _ _ = (λ h. (pos 0, tt, tt), λ h. tt)
splits time none (upto m t) p k _ _ = let z = m *ℤ pos (finer time * k) in let r = pos (finer time) *ℤ p in (λ h. (r -ℤ (z -ℤ pos 1), tt, rw (away r (z -ℤ pos 1)) (less_keeps t z)), λ h. tt)
splits time (upto n s) none p k _ _ = let z = n *ℤ pos (finer time * k) in (λ h. (z -ℤ pos 1, less_keeps s z, tt), λ h. tt)
splits time (upto n s) (upto m t) p k e f =
    let a = n *ℤ pos k in
    let b = m *ℤ pos k in
    rw (times_regroup n (finer time) k, times_regroup m (finer time) k, times_spread n m k)
    (λ h. (edge time s a, edge_keeps time s a, parts time s t p n m a b e f h), λ h. joins s t p h.0 a b (finer time) (finer_some time) h.1 h.2)

-- a limit is at most another if all that keeps it keeps the other
within : (time : Time) (a b : Bound) → Proper time a → Proper time b → ((p : ℤ) (k : ℕ) → Cut time k → IsMet a p k → IsMet b p k) → at_most a b ≡ true
within time a none e f g = top a
within time none (upto m t) e f g = absurd (above t m (g (m +ℤ pos 1) 1 (cut_one time) tt))
within time (upto n s) (upto m t) e f g = edge_under time s t n m e f (g (edge time s n) (finer time) (cut_self time) (rw (*ℤ_comm n (pos (finer time))) (edge_keeps time s n)))

proper_add : (time : Time) (a b : Bound) → Proper time a → Proper time b → Proper time (add a b)
proper_add fine a b e f = tt
proper_add whole none b e f = tt
proper_add whole (upto n s) none e f = tt
proper_add whole (upto n s) (upto m t) e f = ap₂ ◌||◌ e f

proper_none : (time : Time) → Proper time none
proper_none fine = tt
proper_none whole = tt

pub upto_proper : (time : Time) (z : ℤ) → Proper time (upto z false)
upto_proper fine z = tt
upto_proper whole z = refl

pub less_than_proper : (time : Time) (z : ℤ) → Proper time (less_than time z)
less_than_proper fine z = tt
less_than_proper whole z = refl

-- `<z` is kept by what is below z
pub less_than_meets : (time : Time) (z p : ℤ) (k : ℕ) → Cut time k → (IsMet (less_than time z) p k → p <ℤ (z *ℤ pos k)) × (p <ℤ (z *ℤ pos k) → IsMet (less_than time z) p k)
less_than_meets fine z p k c = (λ h. h, λ h. h)
less_than_meets whole z p k c = rw c (λ h. omega (arith, prods), λ h. omega (arith, prods))

pub laws : (time : Time) → Laws (arithmetic time)
laws time = record {
  total = total;
  trans = trans;
  antisym = antisym;
  top = top;
  assoc = assoc;
  comm = comm;
  mono = mono;
  neutral = neutral;
  free = λ a. refl;
  all = λ p k. tt;
  zero_or_less = zero_or_less;
  lower = lower;
  scale = scale;
  splits = λ a b p k e f c. splits time a b p k e f;
  most = λ a b e f. (λ g p k c. wider a b p k (cut_some time k c) g, within time a b e f);
  proper_add = proper_add time;
  proper_nought = upto_proper time (pos 0);
  proper_none = proper_none time;
  cut_one = cut_one time;
  cut_some = cut_some time;
  cut_finer = cut_finer time;
  finer_some = finer_some time;
}

pub fine_laws : Laws (arithmetic fine)
fine_laws = laws fine

pub whole_laws : Laws (arithmetic whole)
whole_laws = laws whole
