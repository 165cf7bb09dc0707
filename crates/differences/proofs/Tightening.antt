-- A closed matrix that one more limit tightens is closed, and keeps the valuations that keep the limit. Assumes nothing but the laws.
use Rattle.std.proofs.Common.{◌≡◌, ℕ, ◌*◌, ◌≤◌, Bool, true, false, cond, ◌⊎◌, ℤ, pos, ◌-ℤ◌, ◌*ℤ◌, refl, ◌∙◌, inl, inr, ⊎_elim, arith}
use Rattle.std.proofs.lemmas.Int.{ints}
use Rattle.std.proofs.lemmas.Bool.{both_ways}
use Rattle.differences.specs.Laws.{Arithmetic, Laws}
use Rattle.differences.specs.Matrix.{Meets, Closed, least, via, Tightened}
use Rattle.differences.proofs.Products.{spread}
use Rattle.differences.proofs.Filling.{refined, from_zero_down}

module _ {B : Type 0} (A : Arithmetic B) (laws : Laws A) where
  abbrev Leq : B → B → Type 0
  Leq x y = A.leq x y ≡ true

  same : (x : B) → Leq x x
  same x = ⊎_elim (λ h. h) (λ h. h) (laws.total x x)

  left : (x x' y : B) → Leq x x' → Leq (A.add x y) (A.add x' y)
  left x x' y h = laws.mono x x' y y h (same y)

  right : (x y y' : B) → Leq y y' → Leq (A.add x y) (A.add x y')
  right x y y' h = laws.mono x x y y' (same x) h

  abbrev Smaller : B → B → B → Type 0
  Smaller x y z = Leq z x × Leq z y × ((z ≡ x) ⊎ (z ≡ y))

  smaller : (x y : B) → Smaller x y (least A x y)
  smaller x y = by (A.leq x y) refl
    where
      by : (b : Bool) → A.leq x y ≡ b → Smaller x y (cond b x y)
      by true e = (same x, e, inl refl)
      by false e = (⊎_elim (λ h. absurd (both_ways (A.leq x y) e h)) (λ h. h) (laws.total x y), same y, inr refl)

  -- readings p, q and r, one difference keeping x and the next y
  chain : (x y : B) (p q r : ℤ) (k : ℕ) → A.Proper x → A.Proper y → A.Cut k → A.meets x (p -ℤ q) k → A.meets y (q -ℤ r) k → A.meets (A.add x y) (p -ℤ r) k
  chain x y p q r k hx hy cut g h =
      let f = A.finer in
      (laws.splits x y (p -ℤ r) k hx hy cut).1 (
        pos f *ℤ p -ℤ pos f *ℤ q,
        refined A laws x p q k f laws.finer_some g,
        laws.lower y (pos f *ℤ (p -ℤ r) -ℤ (pos f *ℤ p -ℤ pos f *ℤ q)) (pos f *ℤ q -ℤ pos f *ℤ r) (f * k) (rw (spread f p r) (omega (arith, ints))) (refined A laws y q r k f laws.finer_some h),
      )

  -- a limit that goes against the one the other way leaves nothing
  pub none_left : (n : ℕ) (M : ℕ → ℕ → B) (a b : ℕ) (c : B) → a ≤ n → b ≤ n → (proper : (i j : ℕ) → A.Proper (M i j)) → A.Proper c → A.leq A.nought (A.add (M b a) c) ≡ false → (v : ℕ → ℤ) (k : ℕ) → A.Cut k → Meets A n M v k → A.meets c (v a -ℤ v b) k → ⊥
  none_left n M a b c ha hb proper sound off v k cut kept g =
      let round = A.add (M b a) c in
      let sum = chain (M b a) c (v b) (v a) (v b) k (proper b a) sound cut (kept b a hb ha) g in
      both_ways (A.leq A.nought round) off ((laws.most A.nought round laws.proper_nought (laws.proper_add (M b a) c (proper b a) sound)).1
      (λ p h cut' l. from_zero_down A laws round p (v b -ℤ v b) h k cut' cut ((laws.zero_or_less p h).0 l) (omega (arith, ints)) sum))

  module _ (n : ℕ) (M N : ℕ → ℕ → B) (a b : ℕ) (c : B) (ha : a ≤ n) (hb : b ≤ n) where
    -- each new limit is the smaller of the old one and the way over c
    abbrev Each : Type 0
    Each = (i j : ℕ) → i ≤ n → j ≤ n → Smaller (M i j) (via A M a b c i j) (N i j)

    each : Tightened A n a b c M N → Each
    each new i j hi hj = rw (new i j hi hj) (smaller (M i j) (via A M a b c i j))

    module _ (closed : Closed A n M) (round : Leq A.nought (A.add (M b a) c)) (new : Each) where
      -- from b by l to a, and over c to b again, is no way down
      loop : (l : ℕ) → l ≤ n → Leq A.nought (A.add (M b l) (A.add (M l a) c))
      loop l hl = rw (laws.assoc (M b l) (M l a) c) at (laws.trans _ _ _ round (left _ _ c (closed.triangle b l a hb hl ha)))

      over : (i j : ℕ) (x : B) → i ≤ n → j ≤ n → Leq (via A M a b c i j) x → Leq (N i j) x
      over i j x hi hj h = laws.trans (N i j) (via A M a b c i j) x (new i j hi hj).1 h

      still : (i : ℕ) → i ≤ n → (N i i ≡ M i i) ⊎ (N i i ≡ via A M a b c i i) → N i i ≡ A.nought
      still i hi (inl e) = e ∙ closed.diagonal i hi
      still i hi (inr e) = laws.antisym (N i i) A.nought (rw (closed.diagonal i hi) at (new i i hi hi).0) (rw (e, laws.comm (A.add (M i a) c) (M b i)) (loop i hi))

      turns : (i l j : ℕ) (x y : B) → i ≤ n → l ≤ n → j ≤ n → (x ≡ M i l) ⊎ (x ≡ via A M a b c i l) → (y ≡ M l j) ⊎ (y ≡ via A M a b c l j) → Leq (N i j) (A.add x y)
      turns i l j x y hi hl hj (inl e) (inl f) = rw (e, f) (laws.trans _ _ _ (new i j hi hj).0 (closed.triangle i l j hi hl hj))
      turns i l j x y hi hl hj (inl e) (inr f) =
          rw (e, f) (over i j _ hi hj (rw (← laws.assoc (M i l) (A.add (M l a) c) (M b j), ← laws.assoc (M i l) (M l a) c) (left _ _ (M b j) (left _ _ c (closed.triangle i l a hi hl ha)))))
      turns i l j x y hi hl hj (inr e) (inl f) = rw (e, f) (over i j _ hi hj (rw (laws.assoc (A.add (M i a) c) (M b l) (M l j)) (right _ _ _ (closed.triangle b l j hb hl hj))))
      turns i l j x y hi hl hj (inr e) (inr f) =
          let one = rw (laws.neutral (M b j), laws.assoc (M b l) (A.add (M l a) c) (M b j)) at (left _ _ (M b j) (loop l hl)) in
          rw (e, f) (over i j _ hi hj (rw (laws.assoc (A.add (M i a) c) (M b l) (A.add (A.add (M l a) c) (M b j))) (right _ _ _ one)))

      stays_closed : Closed A n N
      stays_closed = record {
        diagonal = λ i hi. still i hi (new i i hi hi).2;
        triangle = λ i l j hi hl hj. turns i l j (N i l) (N l j) hi hl hj (new i l hi hl).2 (new l j hl hj).2;
      }

    module _ (proper : (i j : ℕ) → A.Proper (M i j)) (sound : A.Proper c) (closed : Closed A n M) (new : Each) (v : ℕ → ℤ) (k : ℕ) (cut : A.Cut k) where
      proper_via : (i j : ℕ) → A.Proper (via A M a b c i j)
      proper_via i j = laws.proper_add (A.add (M i a) c) (M b j) (laws.proper_add (M i a) c (proper i a) sound) (proper b j)

      proper_new : (i j : ℕ) → i ≤ n → j ≤ n → A.Proper (N i j)
      proper_new i j hi hj = ⊎_elim (λ e. rw e (proper i j)) (λ e. rw e (proper_via i j)) (new i j hi hj).2

      -- from a to b the way over c is c alone
      direct : A.add (A.add (M a a) c) (M b b) ≡ c
      direct = rw (closed.diagonal a ha, closed.diagonal b hb, laws.neutral c, laws.comm c A.nought, laws.neutral c)

      wider : (i j : ℕ) (x : B) → i ≤ n → j ≤ n → A.Proper x → Leq (N i j) x → Meets A n N v k → A.meets x (v i -ℤ v j) k
      wider i j x hi hj hx l kept = (laws.most (N i j) x (proper_new i j hi hj) hx).0 l (v i -ℤ v j) k cut (kept i j hi hj)

      members : (Meets A n N v k → Meets A n M v k × A.meets c (v a -ℤ v b) k) × (Meets A n M v k → A.meets c (v a -ℤ v b) k → Meets A n N v k)
      members = (
        (λ kept. ((λ i j hi hj. wider i j (M i j) hi hj (proper i j) (new i j hi hj).0 kept), wider a b c ha hb sound (rw direct at (new a b ha hb).1) kept)),
        (λ kept g i j hi hj. ⊎_elim (λ e. rw e (kept i j hi hj))
            (λ e. rw e (chain (A.add (M i a) c) (M b j) (v i) (v b) (v j) k (laws.proper_add (M i a) c (proper i a) sound) (proper b j) cut (chain (M i a) c (v i) (v a) (v b) k (proper i a) sound cut (kept i a hi ha) g) (kept b j hb hj)))
            (new i j hi hj).2),
      )

  pub tightened_closed : (n : ℕ) (M N : ℕ → ℕ → B) (a b : ℕ) (c : B) → a ≤ n → b ≤ n → Closed A n M → A.leq A.nought (A.add (M b a) c) ≡ true → Tightened A n a b c M N → Closed A n N
  tightened_closed n M N a b c ha hb closed round new = stays_closed n M N a b c ha hb closed round (each n M N a b c ha hb new)

  pub tightened_members : (n : ℕ) (M N : ℕ → ℕ → B) (a b : ℕ) (c : B) → a ≤ n → b ≤ n → (proper : (i j : ℕ) → A.Proper (M i j)) → A.Proper c → Closed A n M → Tightened A n a b c M N → (v : ℕ → ℤ) (k : ℕ) → A.Cut k → (Meets A n N v k → Meets A n M v k × A.meets c (v a -ℤ v b) k) × (Meets A n M v k → A.meets c (v a -ℤ v b) k → Meets A n N v k)
  tightened_members n M N a b c ha hb proper sound closed new = members n M N a b c ha hb proper sound closed (each n M N a b c ha hb new)
