-- A matrix as a clock is set to 0: it is shaped, and holds of what the readings become that the matrix before held of. Assumes nothing but the laws.
use Rattle.std.proofs.Common.{◌≡◌, ℕ, zero, suc, ◌-◌, ◌*◌, ◌≤◌, true, cond, length, ℤ, pos, ◌-ℤ◌, sym, refl, ap, ◌∙◌, arith}
use native.Mathlib.Decide.{ℕ_discrete}
use Rattle.std.proofs.lemmas.List.{get_or-set_same, get_or-set_other, length-set}
use Rattle.std.proofs.lemmas.Int.{ints}
use Rattle.std.proofs.lemmas.Bool.{eq-eqb, ne_eqb}
use Rattle.differences.specs.Bounds.{Bound, Time, Proper, nought, at_most, finer, arithmetic}
use Rattle.differences.specs.Laws.{Laws}
use Rattle.differences.proofs.Filling.{at_index, at_same, at_other, scaled}
use Rattle.differences.proofs.Changing.{without, reset, reset_closed, reset_back, reset_on}
use Rattle.differences.proofs.Products.{prods}
use Rattle.tables.specs.Readings.{Reading, shows, difference, zeroed}
use Rattle.tables.specs.Sets.{Same, Reset}
use Rattle.tables.specs.Matrices.{Holds, Shaped}
use Rattle.tables.specs.Valuations.{valued, Alike, same_sym, same_finer, holds_agree, holds_by, holds_of, holds_same, shaped_agree}

pub shows_zeroed_same : (x : ℕ) (s : Reading) → 1 ≤ x → x ≤ length s.parts → shows (zeroed x s) x ≡ 0
shows_zeroed_same zero s some h = refl
shows_zeroed_same (suc x) s some h = let e : suc x - 1 ≡ x = omega arith in rw e (get_or-set_same s.parts x 0 0 h)

pub shows_zeroed_other : (x : ℕ) (s : Reading) (i : ℕ) → 1 ≤ x → (i ≡ x → ⊥) → shows (zeroed x s) i ≡ shows s i
shows_zeroed_other x s zero some a = refl
shows_zeroed_other x s (suc i) some a = get_or-set_other s.parts (x - 1) i 0 0 (λ e. a (omega arith))

-- clock x is put where clock 0 is
shows_after : (x : ℕ) (s : Reading) (i : ℕ) → 1 ≤ x → x ≤ length s.parts → pos (shows (zeroed x s) i) ≡ at_index (valued s) x (pos 0) i -ℤ at_index (valued s) x (pos 0) 0
shows_after x s i some h = rw (at_other (valued s) x (pos 0) 0 (λ e. omega arith)) (by (ℕ_discrete i x))
  where
    by : Dec (i ≡ x) → pos (shows (zeroed x s) i) ≡ at_index (valued s) x (pos 0) i -ℤ pos 0
    by (yes e) = rw (e, at_same (valued s) x (pos 0), shows_zeroed_same x s some h)
    by (no a) = rw (at_other (valued s) x (pos 0) i a, shows_zeroed_other x s i some a) (omega (arith, ints))

-- clock x showed y, and shows as little as clock 0; the others showed f times as much as in r
shows_before : (f x : ℕ) (r s : Reading) (y : ℤ) (i : ℕ) → 1 ≤ x → x ≤ length s.parts → shows r x ≡ 0 → pos (shows s i) ≡ at_index (scaled f (valued r)) x y i -ℤ at_index (scaled f (valued r)) x y 0 → shows (zeroed x s) i ≡ f * shows r i
shows_before f x r s y i some h z e = by (ℕ_discrete i x)
  where
    by : Dec (i ≡ x) → shows (zeroed x s) i ≡ f * shows r i
    by (yes g) = rw (g, z, shows_zeroed_same x s some h) (omega arith)
    by (no a) = let b = rw (at_other (scaled f (valued r)) x y i a, at_other (scaled f (valued r)) x y 0 (λ g. omega arith)) at e in shows_zeroed_other x s i some a ∙ omega (arith, prods)

pub without_same : (x i : ℕ) → i ≡ x → without x i ≡ 0
without_same x i e = ap (λ t. cond t 0 i) (eq-eqb i x e)

pub without_other : (x i : ℕ) → (i ≡ x → ⊥) → without x i ≡ i
without_other x i a = rw (ne_eqb i x a)

module _ (time : Time) (laws : Laws (arithmetic time)) where
  pub reset_shaped : (n : ℕ) (M N : ℕ → ℕ → Bound) (x : ℕ) → 1 ≤ x → x ≤ n → Alike n (reset x M) N → Shaped time n M → Shaped time n N
  reset_shaped n M N x some hx alike s = shaped_agree time laws n (reset x M) N alike (record { closed = reset_closed (arithmetic time) laws n M x hx s.closed; natural = λ j hj. rw (without_other x 0 (λ e. omega arith)) (natural j hj (ℕ_discrete j x)) })
    where
      natural : (j : ℕ) → j ≤ n → Dec (j ≡ x) → at_most (M 0 (without x j)) nought ≡ true
      natural j hj (yes e) = rw (without_same x j e) (s.natural 0 (omega arith))
      natural j hj (no a) = rw (without_other x j a) (s.natural j hj)

  pub reset_holds : (n : ℕ) (M N : ℕ → ℕ → Bound) → ((i j : ℕ) → Proper time (M i j)) → Shaped time n M → (x : ℕ) → 1 ≤ x → x ≤ n → Alike n (reset x M) N → Same (Holds time n N) (Reset time x (Holds time n M))
  reset_holds n M N proper shaped x some hx alike r = (before, after)
    where
      f : ℕ
      f = finer time

      down : Holds time n N r → shows r x ≡ 0
      down h =
          let e = alike x 0 hx (omega arith) ∙ ap (λ i. M i (without x 0)) (without_same x x refl) ∙ ap (M 0) (without_other x 0 (λ e. omega arith)) ∙ shaped.closed.diagonal 0 (omega arith) in
          let l = (laws.zero_or_less (difference r x 0) r.cut).0 (rw e at (h.1 x 0 hx (omega arith))) in
          omega (arith, ints)

      before : Holds time n N r → Reset time x (Holds time n M) r
      before h =
          let b = reset_back (arithmetic time) laws n M proper shaped.closed x hx some (valued r) r.cut h.0.0 (holds_agree time laws n N (reset x M) (λ i j hi hj. sym (alike i j hi hj)) r h).1 in
          let w = at_index (scaled f (valued r)) x b.0 in
          let p = holds_of time laws n M proper shaped w (f * r.cut) (laws.cut_finer r.cut h.0.0) b.1 in
          let s = p.0 in
          (h.0.0, (s, p.1, same_finer n f r (zeroed x s) h.0.1 (length-set s.parts (x - 1) 0 ∙ p.1.0.1) p.2 (λ i _ hi. shows_before f x r s b.0 i some (omega (arith, p.1.0.1)) (down h) (p.3 i hi))))

      after : Reset time x (Holds time n M) r → Holds time n N r
      after a =
          let s = a.1.0 in
          let h = a.1.1 in
          let t = zeroed x s in
          holds_same time laws n N t r (same_sym r t a.1.2) a.0
          (holds_agree time laws n (reset x M) N alike t
          (holds_by time laws n (reset x M) (at_index (valued s) x (pos 0)) s.cut h.0.0 (reset_on (arithmetic time) laws n M x some hx (valued s) s.cut h.1) t refl (length-set s.parts (x - 1) 0 ∙ h.0.1) (λ i hi. shows_after x s i some (omega (arith, h.0.1)))))
