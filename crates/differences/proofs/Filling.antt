-- A closed matrix has a valuation that keeps all its limits, whatever some of the clocks already show. Assumes nothing but the laws.
use Rattle.std.proofs.Common.{◌≡◌, ℕ, zero, suc, ◌*◌, ◌≤◌, Bool, true, false, cond, ◌||◌, eqb, ℤ, pos, ◌-ℤ◌, ◌*ℤ◌, ◌≤ℤ◌, sym, refl, ap, ◌∙◌, subst, mul_assoc, mul_comm, one-mul, arith}
use native.Mathlib.Decide.{ℕ_discrete}
use Rattle.std.proofs.lemmas.Int.{by_lt_z, ints}
use Rattle.std.proofs.lemmas.Bool.{eqb-true, eq-eqb, ne_eqb, both_ways}
use Rattle.differences.specs.Laws.{Arithmetic, Laws}
use Rattle.differences.specs.Matrix.{Meets, Closed}
use Rattle.differences.proofs.Products.{prods, spread, regroup, some_times, times_negative, turned}
use Rattle.differences.proofs.Extension.{Over, Beneath, Fit, nothing, below_nothing, above_nothing, between}

-- clock x shows y, and the others show what they showed
abbrev pub at_index : (ℕ → ℤ) → ℕ → ℤ → ℕ → ℤ
at_index v x y i = cond (eqb i x) y (v i)

pub at_same : (v : ℕ → ℤ) (x : ℕ) (y : ℤ) → at_index v x y x ≡ y
at_same v x y = rw (eq-eqb x x refl)

pub at_other : (v : ℕ → ℤ) (x : ℕ) (y : ℤ) (i : ℕ) → (i ≡ x → ⊥) → at_index v x y i ≡ v i
at_other v x y i n = rw (ne_eqb i x n)

-- the same readings at a cut that is m times as fine
abbrev pub scaled : ℕ → (ℕ → ℤ) → ℕ → ℤ
scaled m v i = pos m *ℤ v i

module _ {B : Type 0} (A : Arithmetic B) where
  -- the clocks that d marks keep the limits between them
  abbrev pub Partial : ℕ → (ℕ → ℕ → B) → (ℕ → Bool) → (ℕ → ℤ) → ℕ → Type 0
  Partial n M d v k = (i j : ℕ) → i ≤ n → j ≤ n → d i ≡ true → d j ≡ true → A.meets (M i j) (v i -ℤ v j) k

module _ {B : Type 0} (A : Arithmetic B) (laws : Laws A) where
  -- a clock keeps its limit to itself
  self : (n : ℕ) (M : ℕ → ℕ → B) → Closed A n M → (i : ℕ) → i ≤ n → (p : ℤ) (k : ℕ) → A.meets (M i i) (p -ℤ p) k
  self n M closed i h p k = rw (closed.diagonal i h) ((laws.zero_or_less (p -ℤ p) k).1 (omega (arith, ints)))

  -- one clock more, whose reading keeps its limits to those before
  pub one_more : (n : ℕ) (M : ℕ → ℕ → B) → Closed A n M → (d : ℕ → Bool) (k : ℕ) (v : ℕ → ℤ) (x : ℕ) (y : ℤ) → x ≤ n → Partial A n M d v k → ((i : ℕ) → i ≤ n → d i ≡ true → A.meets (M i x) (v i -ℤ y) k) → ((j : ℕ) → j ≤ n → d j ≡ true → A.meets (M x j) (y -ℤ v j) k) → Partial A n M (λ i. eqb i x || d i) (at_index v x y) k
  one_more n M closed d k v x y hx old over beneath i j hi hj di dj = by (ℕ_discrete i x) (ℕ_discrete j x)
    where
      marked : (i : ℕ) → ¬ (i ≡ x) → (eqb i x || d i) ≡ true → d i ≡ true
      marked i a h = rw (ne_eqb i x a) at h

      by : Dec (i ≡ x) → Dec (j ≡ x) → A.meets (M i j) (at_index v x y i -ℤ at_index v x y j) k
      by (yes e) (yes f) = rw (e, f, at_same v x y) (self n M closed x hx y k)
      by (yes e) (no b) = rw (e, at_same v x y, at_other v x y j b) (beneath j hj (marked j b dj))
      by (no a) (yes f) = rw (f, at_same v x y, at_other v x y i a) (over i hi (marked i a di))
      by (no a) (no b) = rw (at_other v x y i a, at_other v x y j b) (old i j hi hj (marked i a di) (marked j b dj))

  -- a difference that keeps a limit keeps it at a finer cut
  pub refined : (a : B) (p q : ℤ) (k m : ℕ) → 1 ≤ m → A.meets a (p -ℤ q) k → A.meets a (pos m *ℤ p -ℤ pos m *ℤ q) (m * k)
  refined a p q k m h g = rw (spread m p q) at ((laws.scale a (p -ℤ q) k m h).0 g)

  -- a difference of q parts of the cut h keeps a limit, and so does one of p parts of the cut k that is no larger
  carry : (c : B) (p q : ℤ) (k h : ℕ) → A.Cut k → A.Cut h → (pos h *ℤ p) ≤ℤ (pos k *ℤ q) → A.meets c q h → A.meets c p k
  carry c p q k h cut cut' l g =
      (laws.scale c p k h (laws.cut_some h cut')).1 (laws.lower c (pos h *ℤ p) (pos k *ℤ q) (h * k) l (rw (mul_comm k h) at ((laws.scale c q h k (laws.cut_some k cut)).0 g)))

  -- a limit that some difference from 0 up keeps is kept by all from 0 down
  pub from_zero_down : (c : B) (p q : ℤ) (k h : ℕ) → A.Cut k → A.Cut h → p ≤ℤ pos 0 → pos 0 ≤ℤ q → A.meets c q h → A.meets c p k
  from_zero_down c p q k h cut cut' l m g = carry c p (pos 0) k h cut cut' (times_negative h k p l) (laws.lower c (pos 0) q h m g)

  module _ (n : ℕ) (M : ℕ → ℕ → B) (proper : (i j : ℕ) → A.Proper (M i j)) (closed : Closed A n M) where
    -- what keeps a limit keeps the way round through x
    pub round : (i x j : ℕ) → i ≤ n → x ≤ n → j ≤ n → (p : ℤ) (k : ℕ) → A.Cut k → A.meets (M i j) p k → A.meets (A.add (M i x) (M x j)) p k
    round i x j hi hx hj = (laws.most (M i j) (A.add (M i x) (M x j)) (proper i j) (laws.proper_add (M i x) (M x j) (proper i x) (proper x j))).0 (closed.triangle i x j hi hx hj)

    -- the constraint of a clock that d marks, and none of the others
    when : Bool → ℤ → B → ℤ × B
    when b p a = cond b (p, a) (nothing A)

    -- a clock that d does not mark finds its place among those that d marks
    pub place : (d : ℕ → Bool) (k : ℕ) (v : ℕ → ℤ) (x : ℕ) → A.Cut k → x ≤ n → Partial A n M d v k → d x ≡ false → (y : ℤ) × Partial A n M (λ i. eqb i x || d i) (at_index (scaled A.finer v) x y) (A.finer * k)
    unfolding when
    place d k v x cut hx old off =
        let r = between A laws k cut n low up (λ i _. sound (d i) (v i) (M i x) (proper i x)) (λ j _. sound (d j) (v j) (M x j) (proper x j)) (λ i j hi hj. fits i j (d i) (d j) hi hj (old i j hi hj)) in (
          r.0,
          one_more n M closed d (A.finer * k) (scaled A.finer v) x r.0 hx
              (λ i j hi hj di dj. refined (M i j) (v i) (v j) k A.finer laws.finer_some (old i j hi hj di dj))
              (λ i hi di. subst (λ b. Over A k r.0 (when b (v i) (M i x))) di (r.1 i hi))
              (λ j hj dj. subst (λ b. Beneath A k r.0 (when b (v j) (M x j))) dj (r.2 j hj)),
        )
      where
        low : ℕ → ℤ × B
        low i = when (d i) (v i) (M i x)

        up : ℕ → ℤ × B
        up j = when (d j) (v j) (M x j)

        sound : (b : Bool) (p : ℤ) (a : B) → A.Proper a → A.Proper (when b p a).1
        sound true p a h = h
        sound false p a h = laws.proper_none

        fits : (i j : ℕ) (b c : Bool) → i ≤ n → j ≤ n → (b ≡ true → c ≡ true → A.meets (M i j) (v i -ℤ v j) k) → Fit A k (when b (v i) (M i x)) (when c (v j) (M x j))
        fits i j true true hi hj h = round i x j hi hx hj (v i -ℤ v j) k cut (h refl refl)
        fits i j true false hi hj h = below_nothing A laws (M i x) (v i -ℤ pos 0) k
        fits i j false true hi hj h = above_nothing A laws (M x j) (pos 0 -ℤ v j) k
        fits i j false false hi hj h = above_nothing A laws A.none (pos 0 -ℤ pos 0) k

    -- a valuation of all the clocks, at a finer cut, in which those that d marks show what v says
    abbrev Filled : (ℕ → Bool) → ℕ → (ℕ → ℤ) → Type 0
    Filled d k v = (m : ℕ) × (w : ℕ → ℤ) × (1 ≤ m) × A.Cut (m * k) × Meets A n M w (m * k) × ((i : ℕ) → i ≤ n → d i ≡ true → w i ≡ pos m *ℤ v i)

    -- what fills the clocks once x is placed fills them as they were before
    onto : (d : ℕ → Bool) (k : ℕ) (v : ℕ → ℤ) (x : ℕ) (y : ℤ) → d x ≡ false → Filled (λ i. eqb i x || d i) (A.finer * k) (at_index (scaled A.finer v) x y) → Filled d k v
    onto d k v x y off r = (
      r.0 * A.finer,
      r.1,
      some_times r.0 A.finer r.2 laws.finer_some,
      rw mul_assoc r.3,
      rw mul_assoc r.4,
      (λ i hi di. r.5 i hi (rw (di, either (eqb i x))) ∙ ap (λ z. pos r.0 *ℤ z) (at_other (scaled A.finer v) x y i (λ e. both_ways (d x) off (rw e at di))) ∙ regroup r.0 A.finer (v i)),
    )
      where
        either : (b : Bool) → (b || true) ≡ true
        either true = refl
        either false = refl

    -- the clocks below x are still to be placed, as far as d does not mark them
    fill : (x : ℕ) → x ≤ suc n → (d : ℕ → Bool) (k : ℕ) (v : ℕ → ℤ) → A.Cut k → Partial A n M d v k → ((i : ℕ) → i ≤ n → x ≤ i → d i ≡ true) → Filled d k v
    fill zero hx d k v cut old rest = (1, v, omega arith, rw one-mul cut, (λ i j hi hj. rw one-mul (old i j hi hj (rest i hi (omega arith)) (rest j hj (omega arith)))), (λ i hi di. omega (arith, prods)))
    fill (suc x) hx d k v cut old rest = by (d x) refl (fill x (omega arith))
      where
        by : (b : Bool) → d x ≡ b → ((d : ℕ → Bool) (k : ℕ) (v : ℕ → ℤ) → A.Cut k → Partial A n M d v k → ((i : ℕ) → i ≤ n → x ≤ i → d i ≡ true) → Filled d k v) → Filled d k v
        by true e next = next d k v cut old (λ i hi l. here i hi l (ℕ_discrete i x))
          where
            here : (i : ℕ) → i ≤ n → x ≤ i → Dec (i ≡ x) → d i ≡ true
            here i hi l (yes f) = rw f e
            here i hi l (no a) = rest i hi (omega arith)
        by false e next =
            let p = place d k v x cut (omega arith) old e in
            onto d k v x p.0 e (next (λ i. eqb i x || d i) (A.finer * k) (at_index (scaled A.finer v) x p.0) (laws.cut_finer k cut) p.1 (λ i hi l. here i hi l (ℕ_discrete i x)))
          where
            here : (i : ℕ) → i ≤ n → x ≤ i → Dec (i ≡ x) → (eqb i x || d i) ≡ true
            here i hi l (yes g) = rw (eq-eqb i x g)
            here i hi l (no a) = rw (ne_eqb i x a) (rest i hi (omega arith))

    pub filled : (d : ℕ → Bool) (k : ℕ) (v : ℕ → ℤ) → A.Cut k → Partial A n M d v k → (m : ℕ) × (w : ℕ → ℤ) × (1 ≤ m) × A.Cut (m * k) × Meets A n M w (m * k) × ((i : ℕ) → i ≤ n → d i ≡ true → w i ≡ pos m *ℤ v i)
    filled d k v cut old = fill (suc n) (omega arith) d k v cut old (λ i hi l. absurd (omega arith))

    -- no clock is marked
    pub inhabited : (k : ℕ) × (v : ℕ → ℤ) × A.Cut k × Meets A n M v k
    inhabited = let r = filled (λ _. false) 1 (λ _. pos 0) laws.cut_one (λ i j hi hj off _. absurd (both_ways false refl off)) in (r.0 * 1, r.1, r.3, r.4)

    -- all the valuations keep c on i less j, and a difference of p keeps the limit that M has there
    module _ (i j : ℕ) (hi : i ≤ n) (hj : j ≤ n) (c : B) (all : (v : ℕ → ℤ) (k : ℕ) → A.Cut k → Meets A n M v k → A.meets c (v i -ℤ v j) k) (p : ℤ) (k : ℕ) (cut : A.Cut k) (g : A.meets (M i j) p k) where
      -- a difference of p between i and j, if the limit on j less i allows it, is that of a valuation
      reached : ¬ (i ≡ j) → A.meets (M j i) (pos 0 -ℤ p) k → A.meets c p k
      reached a back =
          let r = filled (λ l. eqb l i || eqb l j) k (at_index (λ _. pos 0) i p) cut
          (one_more n M closed (λ l. eqb l j) k (λ _. pos 0) i p hi
          (λ x y _ _ ex ey. rw (eqb-true x j ex, eqb-true y j ey) (self n M closed j hj (pos 0) k))
          (λ x _ ex. rw (eqb-true x j ex) back)
          (λ y _ ey. rw (eqb-true y j ey) (laws.lower (M i j) (p -ℤ pos 0) p k (omega (arith, ints)) g))) in
          let at_i = rw (at_same (λ _. pos 0) i p) at (r.5 i hi (rw (eq-eqb i i refl))) in
          let at_j = rw (at_other (λ _. pos 0) i p j (λ e. a (sym e))) at (r.5 j hj (rw (ne_eqb j i (λ e. a (sym e)), eq-eqb j j refl))) in
          (laws.scale c p k r.0 r.2).1 (laws.lower c (pos r.0 *ℤ p) (r.1 i -ℤ r.1 j) (r.0 * k) (omega (arith, prods)) (all r.1 (r.0 * k) r.3 r.4))

      -- p is at most what the valuation u has between i and j, or it is more, and then u shows that the limit on j less i allows it
      compared : (h : ℕ) (u : ℕ → ℤ) → A.Cut h → Meets A n M u h → Dec (i ≡ j) → A.meets c p k
      compared h u cut' kept (yes e) =
          let below = (laws.zero_or_less p k).0 (subst (λ b. A.meets b p k) (ap (M i) (sym e) ∙ closed.diagonal i hi) g) in
          let same = ap u e in
          from_zero_down c p (u i -ℤ u j) k h cut cut' below (omega (arith, ints)) (all u h cut' kept)
      compared h u cut' kept (no a) =
          by_lt_z (pos k *ℤ (u i -ℤ u j)) (pos h *ℤ p)
          (λ l. reached a (carry (M j i) (pos 0 -ℤ p) (u j -ℤ u i) k h cut cut' (turned h k p (u i) (u j) l) (kept j i hj hi)))
          (λ l. carry c p (u i -ℤ u j) k h cut cut' l (all u h cut' kept))

    -- each limit is the smallest that all the valuations keep
    pub tight : (i j : ℕ) → i ≤ n → j ≤ n → (c : B) → A.Proper c → ((v : ℕ → ℤ) (k : ℕ) → A.Cut k → Meets A n M v k → A.meets c (v i -ℤ v j) k) → A.leq (M i j) c ≡ true
    tight i j hi hj c sound all =
        let m = inhabited in
        (laws.most (M i j) c (proper i j) sound).1 (λ p k cut g. compared i j hi hj c all p k cut g m.0 m.1 m.2 m.3 (ℕ_discrete i j))
