-- A closed matrix as time passes and as a clock is set to 0 is closed, and has the valuations that are so changed. Assumes nothing but the laws.
use Rattle.std.proofs.Common.{◌≡◌, ℕ, zero, suc, ◌*◌, ◌≤◌, Bool, true, false, cond, not, ◌||◌, eqb, ℤ, pos, ◌-ℤ◌, ◌*ℤ◌, ◌≤ℤ◌, refl, subst, arith}
use Rattle.std.proofs.lemmas.Int.{ints}
use Rattle.std.proofs.lemmas.Bool.{eqb-false, eq-eqb, ne_eqb, not-true}
use Rattle.differences.specs.Laws.{Arithmetic, Laws}
use Rattle.differences.specs.Matrix.{Meets, Closed}
use Rattle.differences.proofs.Extension.{Fit, nothing, below_nothing, between}
use Rattle.differences.proofs.Filling.{at_index, at_same, at_other, scaled, one_more, refined, round, place}

-- no clock is limited against clock 0 any more
abbrev pub passed : {B : Type 0} → B → (ℕ → ℕ → B) → ℕ → ℕ → B
passed top M zero j = M zero j
passed top M (suc i) zero = top
passed top M (suc i) (suc j) = M (suc i) (suc j)

-- clock x stands for clock 0
abbrev pub without : ℕ → ℕ → ℕ
without x i = cond (eqb i x) 0 i

abbrev pub reset : {B : Type 0} → ℕ → (ℕ → ℕ → B) → ℕ → ℕ → B
reset x M i j = M (without x i) (without x j)

-- every clock but x
abbrev others : ℕ → ℕ → Bool
others x i = not (eqb i x)

other : (x i : ℕ) → others x i ≡ true → i ≡ x → ⊥
other x i h = eqb-false i x (not-true (eqb i x) h)

with_others : (x i : ℕ) → (eqb i x || others x i) ≡ true
with_others x i = elim (eqb i x) as (λ b. (b || not b) ≡ true) [ true ↦ refl | false ↦ refl ]

without_le : (n x i : ℕ) → i ≤ n → without x i ≤ n
without_le n x i h = elim (eqb i x) as (λ b. cond b 0 i ≤ n) [ true ↦ omega arith | false ↦ h ]

without_other : (x i : ℕ) → others x i ≡ true → without x i ≡ i
without_other x i h = rw (ne_eqb i x (other x i h))

-- clock x, set to what clock 0 shows, shows what the clock shows that it stands for
without_shows : (v : ℕ → ℤ) (x i : ℕ) → at_index v x (v 0) i ≡ v (without x i)
without_shows v x i = elim (eqb i x) as (λ b. cond b (v 0) (v i) ≡ v (cond b 0 i)) [ true ↦ refl | false ↦ refl ]

module _ {B : Type 0} (A : Arithmetic B) (laws : Laws A) where
  to_none : (x y : B) → A.leq x (A.add A.none y) ≡ true
  to_none x y = rw (laws.free y) (laws.top x)

  to_none_after : (x y : B) → A.leq x (A.add y A.none) ≡ true
  to_none_after x y = rw (laws.comm y A.none) (to_none x y)

  pub passed_closed : (n : ℕ) (M : ℕ → ℕ → B) → Closed A n M → Closed A n (passed A.none M)
  passed_closed n M closed = record { diagonal = diagonal; triangle = triangle }
    where
      P : ℕ → ℕ → B
      P = passed A.none M

      diagonal : (i : ℕ) → i ≤ n → P i i ≡ A.nought
      diagonal zero h = closed.diagonal zero h
      diagonal (suc i) h = closed.diagonal (suc i) h

      triangle : (i l j : ℕ) → i ≤ n → l ≤ n → j ≤ n → A.leq (P i j) (A.add (P i l) (P l j)) ≡ true
      triangle zero zero j hi hl hj = closed.triangle zero zero j hi hl hj
      triangle zero (suc l) zero hi hl hj = to_none_after (M zero zero) (M zero (suc l))
      triangle zero (suc l) (suc j) hi hl hj = closed.triangle zero (suc l) (suc j) hi hl hj
      triangle (suc i) zero zero hi hl hj = to_none A.none (M zero zero)
      triangle (suc i) zero (suc j) hi hl hj = to_none (M (suc i) (suc j)) (M zero (suc j))
      triangle (suc i) (suc l) zero hi hl hj = to_none_after A.none (M (suc i) (suc l))
      triangle (suc i) (suc l) (suc j) hi hl hj = closed.triangle (suc i) (suc l) (suc j) hi hl hj

  -- before the time passed, clock 0 stood at y: the other clocks show the same
  pub passed_back : (n : ℕ) (M : ℕ → ℕ → B) (proper : (i j : ℕ) → A.Proper (M i j)) → Closed A n M → (v : ℕ → ℤ) (k : ℕ) → A.Cut k → Meets A n (passed A.none M) v k → (y : ℤ) × ((pos A.finer *ℤ v 0) ≤ℤ y) × Meets A n M (at_index (scaled A.finer v) 0 y) (A.finer * k)
  passed_back n M proper closed v k cut kept =
      let r = between A laws k cut n low up proper_low proper_up fits in
      let y = r.0 in
      let first = (laws.zero_or_less (pos f *ℤ v 0 -ℤ y) (f * k)).0 (r.1 0 (omega arith)) in (
        y,
        omega (arith, ints),
        (λ i j hi hj. one_more A laws n M closed (others 0) (f * k) (scaled f v) 0 y (omega arith) old (λ i hi di. later_low y i di (r.1 i hi)) (λ j hj dj. later_up y j dj (r.2 j hj)) i j hi hj (with_others 0 i) (with_others 0 j)),
      )
    where
      f : ℕ
      f = A.finer

      low : ℕ → ℤ × B
      low zero = (v 0, A.nought)
      low (suc i) = (v (suc i), M (suc i) 0)

      up : ℕ → ℤ × B
      up zero = nothing A
      up (suc j) = (v (suc j), M 0 (suc j))

      proper_low : (i : ℕ) → i ≤ n → A.Proper (low i).1
      proper_low zero _ = laws.proper_nought
      proper_low (suc i) _ = proper (suc i) 0

      proper_up : (j : ℕ) → j ≤ n → A.Proper (up j).1
      proper_up zero _ = laws.proper_none
      proper_up (suc j) _ = proper 0 (suc j)

      fits : (i j : ℕ) → i ≤ n → j ≤ n → Fit A k (low i) (up j)
      fits i zero hi hj = below_nothing A laws (low i).1 ((low i).0 -ℤ pos 0) k
      fits zero (suc j) hi hj = rw (Fit, laws.neutral (M 0 (suc j))) (kept 0 (suc j) hi hj)
      fits (suc i) (suc j) hi hj = round A laws n M proper closed (suc i) 0 (suc j) hi (omega arith) hj (v (suc i) -ℤ v (suc j)) k cut (kept (suc i) (suc j) hi hj)

      later_low : (y : ℤ) (i : ℕ) → others 0 i ≡ true → A.meets (low i).1 (pos f *ℤ (low i).0 -ℤ y) (f * k) → A.meets (M i 0) (pos f *ℤ v i -ℤ y) (f * k)
      later_low y zero d h = absurd (other 0 0 d refl)
      later_low y (suc i) d h = h

      later_up : (y : ℤ) (j : ℕ) → others 0 j ≡ true → A.meets (up j).1 (y -ℤ pos f *ℤ (up j).0) (f * k) → A.meets (M 0 j) (y -ℤ pos f *ℤ v j) (f * k)
      later_up y zero d h = absurd (other 0 0 d refl)
      later_up y (suc j) d h = h

      old : (i j : ℕ) → i ≤ n → j ≤ n → others 0 i ≡ true → others 0 j ≡ true → A.meets (M i j) (pos f *ℤ v i -ℤ pos f *ℤ v j) (f * k)
      old zero j hi hj di dj = absurd (other 0 0 di refl)
      old (suc i) zero hi hj di dj = absurd (other 0 0 dj refl)
      old (suc i) (suc j) hi hj di dj = refined A laws (M (suc i) (suc j)) (v (suc i)) (v (suc j)) k f laws.finer_some (kept (suc i) (suc j) hi hj)

  pub passed_on : (n : ℕ) (M : ℕ → ℕ → B) (v : ℕ → ℤ) (k : ℕ) (y : ℤ) → y ≤ℤ v 0 → Meets A n M v k → Meets A n (passed A.none M) (at_index v 0 y) k
  passed_on n M v k y h kept = holds
    where
      later : (j : ℕ) → at_index v 0 y (suc j) ≡ v (suc j)
      later j = at_other v 0 y (suc j) (λ e. omega arith)

      holds : Meets A n (passed A.none M) (at_index v 0 y) k
      holds zero zero hi hj = rw (at_same v 0 y) (laws.lower (M 0 0) (y -ℤ y) (v 0 -ℤ v 0) k (omega (arith, ints)) (kept 0 0 hi hj))
      holds zero (suc j) hi hj = rw (at_same v 0 y, later j) (laws.lower (M 0 (suc j)) (y -ℤ v (suc j)) (v 0 -ℤ v (suc j)) k (omega (arith, ints)) (kept 0 (suc j) hi hj))
      holds (suc i) zero hi hj = laws.all (at_index v 0 y (suc i) -ℤ at_index v 0 y 0) k
      holds (suc i) (suc j) hi hj = rw (later i, later j) (kept (suc i) (suc j) hi hj)

  pub reset_closed : (n : ℕ) (M : ℕ → ℕ → B) (x : ℕ) → x ≤ n → Closed A n M → Closed A n (reset x M)
  reset_closed n M x hx closed = record {
    diagonal = λ i hi. closed.diagonal (without x i) (without_le n x i hi);
    triangle = λ i l j hi hl hj. closed.triangle (without x i) (without x l) (without x j) (without_le n x i hi) (without_le n x l hl) (without_le n x j hj);
  }

  -- before it was set, clock x stood at y
  pub reset_back : (n : ℕ) (M : ℕ → ℕ → B) (proper : (i j : ℕ) → A.Proper (M i j)) → Closed A n M → (x : ℕ) → x ≤ n → 1 ≤ x → (v : ℕ → ℤ) (k : ℕ) → A.Cut k → Meets A n (reset x M) v k → (y : ℤ) × Meets A n M (at_index (scaled A.finer v) x y) (A.finer * k)
  reset_back n M proper closed x hx some v k cut kept =
      let r = place A laws n M proper closed (others x) k v x cut hx
      (λ i j hi hj di dj. subst (λ a. A.meets (M a j) (v i -ℤ v j) k) (without_other x i di) (subst (λ b. A.meets (M (without x i) b) (v i -ℤ v j) k) (without_other x j dj) (kept i j hi hj)))
      (rw (eq-eqb x x refl)) in
      (r.0, (λ i j hi hj. r.1 i j hi hj (with_others x i) (with_others x j)))

  pub reset_on : (n : ℕ) (M : ℕ → ℕ → B) (x : ℕ) → 1 ≤ x → x ≤ n → (v : ℕ → ℤ) (k : ℕ) → Meets A n M v k → Meets A n (reset x M) (at_index v x (v 0)) k
  reset_on n M x some hx v k kept i j hi hj = rw (without_shows v x i, without_shows v x j) (kept (without x i) (without x j) (without_le n x i hi) (without_le n x j hj))
