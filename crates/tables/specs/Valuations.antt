-- Readings as valuations of the clocks 0 to n: a matrix that is shaped has a reading, and its limits are tight. Assumes nothing but the laws.
use Rattle.std.specs.Prelude.{◌≡◌, ℕ, zero, suc, ◌*◌, ◌<◌, ◌≤◌, List, [], ◌∷◌, length, ℤ, pos, negsuc, ◌-ℤ◌, ◌*ℤ◌, ◌≤ℤ◌, slice_index, unsigned_abs, refl}
use Rattle.std.proofs.Common.{sym, ap, ◌∙◌, mul_comm, arith}
use Rattle.std.proofs.Math.Decide.{dec_le}
use Rattle.std.proofs.lemmas.List.{get_or_past}
use Rattle.std.proofs.lemmas.Int.{ints}
use Rattle.differences.specs.Bounds.{Bound, Time, Cut, Proper, IsMet, nought, arithmetic}
use Rattle.differences.specs.Laws.{Laws}
use Rattle.differences.specs.Matrix.{Meets}
use Rattle.differences.proofs.Filling.{inhabited, tight}
use Rattle.differences.proofs.Products.{prods, spread}
use Rattle.tables.specs.Readings.{Reading, SameReading, shows, difference}
use Rattle.tables.specs.Sets.{Same, Zeros, Tight}
use Rattle.tables.specs.Matrices.{Holds, Shaped}

-- what the clocks of a reading show
abbrev pub valued : Reading → ℕ → ℤ
valued r i = pos (shows r i)

-- a clock past the last shows zero
pub shows_past : (r : Reading) (i : ℕ) → length r.parts < i → shows r i ≡ 0
shows_past r i h = get_or_past (0 ∷ r.parts) i 0 h

pub same_sym : (r s : Reading) → SameReading r s → SameReading s r
same_sym r s same = (sym same.0, (λ i. sym (same.1 i)))

-- f 0 to f (n - 1)
listed : ℕ → (ℕ → ℕ) → List ℕ
listed zero f = []
listed (suc n) f = f 0 ∷ listed n (λ i. f (suc i))

length_listed : (n : ℕ) (f : ℕ → ℕ) → length (listed n f) ≡ n
unfolding listed
length_listed zero f = refl
length_listed (suc n) f = ap suc (length_listed n (λ i. f (suc i)))

get_d_listed : (n : ℕ) (f : ℕ → ℕ) (i : ℕ) → i < n → slice_index (listed n f) i ≡ f i
unfolding listed
get_d_listed zero f i h = absurd (omega arith)
get_d_listed (suc n) f zero h = refl
get_d_listed (suc n) f (suc i) h = get_d_listed n (λ i. f (suc i)) i (omega arith)

pub not_negative : (z : ℤ) → pos 0 ≤ℤ z → pos (unsigned_abs z) ≡ z
not_negative (pos a) h = refl
not_negative (negsuc a) h = absurd (omega (arith, ints))

-- a valuation with no clock below clock 0, as a reading
pub reading_of : (n : ℕ) (v : ℕ → ℤ) (k : ℕ) → ((i : ℕ) → i ≤ n → v 0 ≤ℤ v i) → (r : Reading) × (r.cut ≡ k) × (length r.parts ≡ n) × ((i : ℕ) → i ≤ n → pos (shows r i) ≡ v i -ℤ v 0)
reading_of n v k above = (record { cut = k; parts = listed n over }, refl, length_listed n over, each)
  where
    over : ℕ → ℕ
    over i = unsigned_abs (v (suc i) -ℤ v 0)

    each : (i : ℕ) → i ≤ n → pos (slice_index (0 ∷ listed n over) i) ≡ v i -ℤ v 0
    each zero h = omega (arith, ints)
    each (suc i) h = ap pos (get_d_listed n over i h) ∙ not_negative (v (suc i) -ℤ v 0) (let l = above (suc i) h in omega (arith, ints))

-- two readings of which the second has a cut f times as fine
pub same_finer : (n f : ℕ) (r s : Reading) → length r.parts ≡ n → length s.parts ≡ n → s.cut ≡ f * r.cut → ((i : ℕ) → 1 ≤ i → i ≤ n → shows s i ≡ f * shows r i) → SameReading r s
same_finer n f r s er es cut each = (er ∙ sym es, (λ i. whole i (dec_le i n)))
  where
    finer : (i : ℕ) → i ≤ n → shows s i ≡ f * shows r i
    finer zero h = omega arith
    finer (suc i) h = each (suc i) (omega arith) h

    whole : (i : ℕ) → Dec (i ≤ n) → shows r i * s.cut ≡ shows s i * r.cut
    whole i (yes h) = rw (cut, finer i h) (omega (arith, prods))
    whole i (no a) = rw (shows_past r i (omega arith), shows_past s i (omega arith)) (omega arith)

-- limits alike on the clocks 0 to n
abbrev pub Alike : ℕ → (ℕ → ℕ → Bound) → (ℕ → ℕ → Bound) → Type 0
Alike n M N = (i j : ℕ) → i ≤ n → j ≤ n → N i j ≡ M i j

module _ (time : Time) (laws : Laws (arithmetic time)) where
  pub tight_agree : (P Q : Reading → Type 0) → Same P Q → (i j : ℕ) (b : Bound) → Tight time P i j b → Tight time Q i j b
  tight_agree P Q same i j b t = record {
    proper = t.proper;
    keeps = λ r q. t.keeps r ((same r).1 q);
    smallest = λ c sound all. t.smallest c sound (λ r p. all r ((same r).0 p));
  }

  pub holds_agree : (n : ℕ) (M N : ℕ → ℕ → Bound) → Alike n M N → (r : Reading) → Holds time n M r → Holds time n N r
  holds_agree n M N alike r h = (h.0, (λ i j hi hj. rw (alike i j hi hj) (h.1 i j hi hj)))

  pub shaped_agree : (n : ℕ) (M N : ℕ → ℕ → Bound) → Alike n M N → Shaped time n M → Shaped time n N
  shaped_agree n M N alike s = record {
    closed = record {
      diagonal = λ i hi. alike i i hi hi ∙ s.closed.diagonal i hi;
      triangle = λ i l j hi hl hj. rw (alike i j hi hj, alike i l hi hl, alike l j hl hj) (s.closed.triangle i l j hi hl hj);
    };
    natural = λ j hj. rw (alike 0 j (omega arith) hj) (s.natural j hj);
  }

  -- a reading that shows what a valuation does, counted from its clock 0
  pub holds_by : (n : ℕ) (M : ℕ → ℕ → Bound) (v : ℕ → ℤ) (k : ℕ) → Cut time k → Meets (arithmetic time) n M v k → (r : Reading) → r.cut ≡ k → length r.parts ≡ n → ((i : ℕ) → i ≤ n → pos (shows r i) ≡ v i -ℤ v 0) → Holds time n M r
  holds_by n M v k cut kept r e len each =
      ((rw e cut, len), (λ i j hi hj. rw e (let a = each i hi in let b = each j hj in laws.lower (M i j) (difference r i j) (v i -ℤ v j) k (omega (arith, ints)) (kept i j hi hj))))

  -- the same fractions of a tick keep the same limits
  pub meets_same : (b : Bound) (r s : Reading) → SameReading r s → Cut time r.cut → Cut time s.cut → (i j : ℕ) → IsMet b (difference r i j) r.cut → IsMet b (difference s i j) s.cut
  meets_same b r s same here there i j h =
      (laws.scale b (difference s i j) s.cut r.cut (laws.cut_some r.cut here)).1
      (laws.lower b (pos r.cut *ℤ difference s i j) (pos s.cut *ℤ difference r i j) (r.cut * s.cut) across
      (rw (mul_comm s.cut r.cut) at ((laws.scale b (difference r i j) r.cut s.cut (laws.cut_some s.cut there)).0 h)))
    where
      across : (pos r.cut *ℤ difference s i j) ≤ℤ (pos s.cut *ℤ difference r i j)
      across = rw (spread r.cut (valued s i) (valued s j), spread s.cut (valued r i) (valued r j)) (let a = same.1 i in let b = same.1 j in omega (arith, prods))

  pub holds_same : (n : ℕ) (M : ℕ → ℕ → Bound) (r s : Reading) → SameReading r s → Cut time s.cut → Holds time n M r → Holds time n M s
  holds_same n M r s same cut h = ((cut, sym same.0 ∙ h.0.1), (λ i j hi hj. meets_same (M i j) r s same h.0.0 cut i j (h.1 i j hi hj)))

  module _ (n : ℕ) (M : ℕ → ℕ → Bound) (proper : (i j : ℕ) → Proper time (M i j)) (shaped : Shaped time n M) where
    -- no clock is below clock 0
    above : (v : ℕ → ℤ) (k : ℕ) → Cut time k → Meets (arithmetic time) n M v k → (i : ℕ) → i ≤ n → v 0 ≤ℤ v i
    above v k cut kept i hi =
        let l = (laws.zero_or_less (v 0 -ℤ v i) k).0 ((laws.most (M 0 i) nought (proper 0 i) laws.proper_nought).0 (shaped.natural i hi) (v 0 -ℤ v i) k cut (kept 0 i (omega arith) hi)) in
        omega (arith, ints)

    pub holds_of : (v : ℕ → ℤ) (k : ℕ) → Cut time k → Meets (arithmetic time) n M v k → (r : Reading) × Holds time n M r × (r.cut ≡ k) × ((i : ℕ) → i ≤ n → pos (shows r i) ≡ v i -ℤ v 0)
    holds_of v k cut kept = let p = reading_of n v k (above v k cut kept) in (p.0, holds_by n M v k cut kept p.0 p.1 p.2 p.3, p.1, p.3)

    pub holds_some : (r : Reading) × Holds time n M r
    holds_some =
        let m = inhabited (arithmetic time) laws n M proper shaped.closed in
        let p = holds_of m.1 m.0 m.2 m.3 in
        (p.0, p.1)

    pub holds_tight : (i j : ℕ) → i ≤ n → j ≤ n → Tight time (Holds time n M) i j (M i j)
    holds_tight i j hi hj = record {
      proper = proper i j;
      keeps = λ r h. h.1 i j hi hj;
      smallest = λ c sound all. tight (arithmetic time) laws n M proper shaped.closed i j hi hj c sound
          (λ v k cut kept.
          let p = holds_of v k cut kept in
          let a = p.3 i hi in
          let b = p.3 j hj in
          laws.lower c (v i -ℤ v j) (difference p.0 i j) k (omega (arith, ints)) (rw p.2 at (all p.0 p.1)));
    }

  module _ (n : ℕ) (M : ℕ → ℕ → Bound) (zeros : (i j : ℕ) → i ≤ n → j ≤ n → M i j ≡ nought) where
    pub zeros_hold : Same (Holds time n M) (Zeros time n)
    zeros_hold r = ((λ h. (h.0, (λ i. none i h (dec_le i n)))), (λ z. (z.0, (λ i j hi hj. rw (zeros i j hi hj, z.1 i, z.1 j) ((laws.zero_or_less (pos 0 -ℤ pos 0) r.cut).1 (omega (arith, ints)))))))
      where
        none : (i : ℕ) → Holds time n M r → Dec (i ≤ n) → shows r i ≡ 0
        none i h (yes l) = let k = (laws.zero_or_less (difference r i 0) r.cut).0 (rw (zeros i 0 l (omega arith)) at (h.1 i 0 l (omega arith))) in omega (arith, ints)
        none i h (no a) = shows_past r i (omega (arith, h.0.1))

    pub zeros_shaped : Shaped time n M
    zeros_shaped = record {
      closed = record {
        diagonal = λ i hi. zeros i i hi hi;
        triangle = λ i l j hi hl hj. rw (zeros i j hi hj, zeros i l hi hl, zeros l j hl hj);
      };
      natural = λ j hj. rw (zeros 0 j (omega arith) hj);
    }
