-- A matrix as time passes: it is shaped, and holds of what is later than a reading that the matrix before held of. Assumes nothing but the laws.
use Rattle.std.proofs.Common.{◌≡◌, ℕ, zero, suc, ◌+◌, ◌*◌, ◌≤◌, length, ℤ, pos, ◌-ℤ◌, ◌*ℤ◌, neg_ℤ, nat_abs, ◌≤ℤ◌, sym, refl, ◌∙◌, arith}
use Rattle.std.proofs.lemmas.List.{get_or-map, length-map}
use Rattle.std.proofs.lemmas.Int.{ints}
use Rattle.differences.specs.Bounds.{Bound, Time, Proper, none, finer, arithmetic}
use Rattle.differences.specs.Laws.{Laws}
use Rattle.differences.proofs.Filling.{at_index, at_same, at_other, scaled}
use Rattle.differences.proofs.Changing.{passed, passed_closed, passed_back, passed_on}
use Rattle.differences.proofs.Products.{prods}
use Rattle.tables.specs.Readings.{Reading, shows, later}
use Rattle.tables.specs.Sets.{Same, After}
use Rattle.tables.specs.Matrices.{Holds, Shaped}
use Rattle.tables.specs.Valuations.{valued, Alike, same_sym, same_finer, not_negative, holds_agree, holds_by, holds_of, holds_same, shaped_agree}

pub shows_later : (d : ℕ) (s : Reading) (i : ℕ) → 1 ≤ i → i ≤ length s.parts → shows (later d s) i ≡ shows s i + d
shows_later d s zero some h = absurd (omega arith)
shows_later d s (suc i) some h = get_or-map (λ x. x + d) s.parts i 0 0 h

-- d parts later is d parts more than clock 0, which is put d parts back
shows_after : (d : ℕ) (s : Reading) (i : ℕ) → i ≤ length s.parts → pos (shows (later d s) i) ≡ at_index (valued s) 0 (neg_ℤ (pos d)) i -ℤ neg_ℤ (pos d)
shows_after d s zero h = rw (at_same (valued s) 0 (neg_ℤ (pos d))) (omega (arith, ints))
shows_after d s (suc i) h = rw (at_other (valued s) 0 (neg_ℤ (pos d)) (suc i) (λ e. omega arith), shows_later d s (suc i) (omega arith) h) (omega (arith, ints))

-- a clock that showed f times as much as in r, clock 0 being at y, shows that y parts after clock 0 did
shows_before : (f : ℕ) (r s : Reading) (y : ℤ) (i : ℕ) → 1 ≤ i → i ≤ length s.parts → (pos f *ℤ pos 0) ≤ℤ y → pos (shows s i) ≡ at_index (scaled f (valued r)) 0 y i -ℤ y → shows (later (nat_abs y) s) i ≡ f * shows r i
shows_before f r s y i some h l e =
    let a = not_negative y (omega (arith, prods)) in
    let b = rw (at_other (scaled f (valued r)) 0 y i (λ z. omega arith)) at e in
    shows_later (nat_abs y) s i some h ∙ omega (arith, prods)

module _ (time : Time) (laws : Laws (arithmetic time)) where
  pub passed_shaped : (n : ℕ) (M N : ℕ → ℕ → Bound) → Alike n (passed none M) N → Shaped time n M → Shaped time n N
  passed_shaped n M N alike s = shaped_agree time laws n (passed none M) N alike (record { closed = passed_closed (arithmetic time) laws n M s.closed; natural = s.natural })

  pub passed_holds : (n : ℕ) (M N : ℕ → ℕ → Bound) → ((i j : ℕ) → Proper time (M i j)) → Shaped time n M → Alike n (passed none M) N → Same (Holds time n N) (After time (Holds time n M))
  passed_holds n M N proper shaped alike r = (before, after)
    where
      f : ℕ
      f = finer time

      before : Holds time n N r → After time (Holds time n M) r
      before h =
          let b = passed_back (arithmetic time) laws n M proper shaped.closed (valued r) r.cut h.0.0 (holds_agree time laws n N (passed none M) (λ i j hi hj. sym (alike i j hi hj)) r h).1 in
          let w = at_index (scaled f (valued r)) 0 b.0 in
          let p = holds_of time laws n M proper shaped w (f * r.cut) (laws.cut_finer r.cut h.0.0) b.2 in
          let s = p.0 in
          let d = nat_abs b.0 in
          (h.0.0, (s, d, p.1, same_finer n f r (later d s) h.0.1 (length-map s.parts (λ x. x + d) ∙ p.1.0.1) p.2 (λ i some hi. shows_before f r s b.0 i some (omega (arith, p.1.0.1)) b.1 (p.3 i hi))))

      after : After time (Holds time n M) r → Holds time n N r
      after a =
          let s = a.1.0 in
          let d = a.1.1 in
          let h = a.1.2 in
          let t = later d s in
          let y = neg_ℤ (pos d) in
          holds_same time laws n N t r (same_sym r t a.1.3) a.0
          (holds_agree time laws n (passed none M) N alike t
          (holds_by time laws n (passed none M) (at_index (valued s) 0 y) s.cut h.0.0 (passed_on (arithmetic time) laws n M (valued s) s.cut y (omega (arith, ints)) h.1) t refl (length-map s.parts (λ x. x + d) ∙ h.0.1) (λ i hi. shows_after d s i (omega (arith, h.0.1)))))
