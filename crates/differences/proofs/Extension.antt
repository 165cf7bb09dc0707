-- One more reading fits between limits that fit together. Assumes nothing but the laws.
use Rattle.std.proofs.Common.{◌≡◌, ℕ, zero, suc, ◌*◌, ◌<◌, ◌≤◌, List, [], ◌∷◌, ℤ, pos, ◌-ℤ◌, ◌*ℤ◌, ◌≤ℤ◌, arith}
use native.Mathlib.Decide.{ℕ_discrete}
use Rattle.std.proofs.lemmas.Int.{by_lt_z, ints}
use Rattle.std.proofs.ByRecursion.{All-weaker}
use Rattle.std.specs.List.{AllByRecursion as All}
use Rattle.differences.specs.Laws.{Arithmetic, Laws}
use Rattle.differences.proofs.Products.{spread}

-- a constraint is a reading and a limit: a lower one limits the reading less x, and an upper one limits x less the reading
module _ {B : Type 0} (A : Arithmetic B) where
  -- x, at the finer cut, keeps the lower constraint c, and the upper one
  abbrev pub Over : ℕ → ℤ → (ℤ × B) → Type 0
  Over k x c = A.meets c.1 (pos A.finer *ℤ c.0 -ℤ x) (A.finer * k)

  abbrev pub Beneath : ℕ → ℤ → (ℤ × B) → Type 0
  Beneath k x c = A.meets c.1 (x -ℤ pos A.finer *ℤ c.0) (A.finer * k)

  -- a lower and an upper constraint fit together
  abbrev pub Fit : ℕ → (ℤ × B) → (ℤ × B) → Type 0
  Fit k a b = A.meets (A.add a.1 b.1) (a.0 -ℤ b.0) k

  -- the constraint that says nothing
  abbrev pub nothing : ℤ × B
  nothing = (pos 0, A.none)

-- what f gives at the numbers below n
rows : {X : Type 0} → (ℕ → X) → ℕ → List X
rows f zero = []
rows f (suc n) = f n ∷ rows f n

all_rows : {X : Type 0} (P : X → Type 0) (f : ℕ → X) (n : ℕ) → ((i : ℕ) → i < n → P (f i)) → All P (rows f n)
unfolding rows
all_rows P f zero h = tt
all_rows P f (suc n) h = (h n (omega arith), all_rows P f n (λ i g. h i (omega arith)))

rows_all : {X : Type 0} (P : X → Type 0) (f : ℕ → X) (n : ℕ) → All P (rows f n) → (i : ℕ) → i < n → P (f i)
unfolding rows
rows_all P f zero h i g = absurd (omega arith)
rows_all P f (suc n) h i g = by (ℕ_discrete i n) (λ d. rows_all P f n h.1 i (omega arith))
  where
    by : Dec (i ≡ n) → (¬ (i ≡ n) → P (f i)) → P (f i)
    by (yes e) r = rw e h.0
    by (no d) r = r d

back : (a q : ℤ) → q ≡ a -ℤ (a -ℤ q)
back a q = omega (arith, ints)

turn : (a b q : ℤ) → (a -ℤ b) -ℤ q ≡ (a -ℤ q) -ℤ b
turn a b q = omega (arith, ints)

module _ {B : Type 0} (A : Arithmetic B) (laws : Laws A) where
  -- what says nothing fits with every other
  pub below_nothing : (a : B) (p : ℤ) (k : ℕ) → A.meets (A.add a A.none) p k
  below_nothing a p k = rw (laws.comm a A.none, laws.free a) (laws.all p k)

  pub above_nothing : (b : B) (p : ℤ) (k : ℕ) → A.meets (A.add A.none b) p k
  above_nothing b p k = rw (laws.free b) (laws.all p k)

  module _ (k : ℕ) (cut : A.Cut k) where
    abbrev Sound : (ℤ × B) → Type 0
    Sound c = A.Proper c.1

    over_up : (x y : ℤ) (c : ℤ × B) → x ≤ℤ y → Over A k x c → Over A k y c
    over_up x y c h = laws.lower c.1 (pos A.finer *ℤ c.0 -ℤ y) (pos A.finer *ℤ c.0 -ℤ x) (A.finer * k) (omega (arith, ints))

    beneath_down : (x y : ℤ) (c : ℤ × B) → x ≤ℤ y → Beneath A k y c → Beneath A k x c
    beneath_down x y c h = laws.lower c.1 (x -ℤ pos A.finer *ℤ c.0) (y -ℤ pos A.finer *ℤ c.0) (A.finer * k) (omega (arith, ints))

    -- one pair
    pair : (a b : ℤ × B) → Sound a → Sound b → Fit A k a b → (x : ℤ) × Over A k x a × Beneath A k x b
    pair a b g h f =
        let s = (laws.splits a.1 b.1 (a.0 -ℤ b.0) k g h cut).0 f in (
          pos A.finer *ℤ a.0 -ℤ s.0,
          rw (back (pos A.finer *ℤ a.0) s.0) at s.1,
          rw (spread A.finer a.0 b.0, turn (pos A.finer *ℤ a.0) (pos A.finer *ℤ b.0) s.0) at s.2,
        )

    -- one lower constraint, and each upper one: the lowest reading of its pairs
    row : (a : ℤ × B) (bs : List (ℤ × B)) → Sound a → All Sound bs → All (Fit A k a) bs → (x : ℤ) × Over A k x a × All (Beneath A k x) bs
    row a [] g h f = let r = pair a (nothing A) g laws.proper_none (below_nothing a.1 (a.0 -ℤ pos 0) k) in (r.0, r.1, tt)
    row a (b ∷ bs) g h f =
        let r = pair a b g h.0 f.0 in
        let s = row a bs g h.1 f.1 in
        by_lt_z r.0 s.0
        (λ l. (r.0, r.1, (r.2, All-weaker (Beneath A k s.0) (Beneath A k r.0) (λ c. beneath_down r.0 s.0 c (omega (arith, ints))) bs s.2)))
        (λ l. (s.0, s.1, (beneath_down s.0 r.0 b l r.2, s.2)))

    -- each lower constraint, and each upper one: the highest reading of its rows
    pub extension : (lows ups : List (ℤ × B)) → All (λ a. A.Proper a.1) lows → All (λ b. A.Proper b.1) ups → All (λ a. All (Fit A k a) ups) lows → (x : ℤ) × All (Over A k x) lows × All (Beneath A k x) ups
    extension [] ups g h f =
        let r = row (nothing A) ups laws.proper_none h (All-weaker Sound (Fit A k (nothing A)) (λ b _. above_nothing b.1 (pos 0 -ℤ b.0) k) ups h) in
        (r.0, tt, r.2)
    extension (a ∷ lows) ups g h f =
        let r = row a ups g.0 h f.0 in
        let s = extension lows ups g.1 h f.1 in
        by_lt_z r.0 s.0
        (λ l. (s.0, (over_up r.0 s.0 a (omega (arith, ints)) r.1, s.1), s.2))
        (λ l. (r.0, (r.1, All-weaker (Over A k s.0) (Over A k r.0) (λ c. over_up s.0 r.0 c l) lows s.1), r.2))

    -- the same, for a lower and an upper constraint of each clock from 0 to n
    pub between : (n : ℕ) (low up : ℕ → ℤ × B) → ((i : ℕ) → i ≤ n → A.Proper (low i).1) → ((j : ℕ) → j ≤ n → A.Proper (up j).1) → ((i j : ℕ) → i ≤ n → j ≤ n → Fit A k (low i) (up j)) → (x : ℤ) × ((i : ℕ) → i ≤ n → Over A k x (low i)) × ((j : ℕ) → j ≤ n → Beneath A k x (up j))
    between n low up g h f =
        let r = extension (rows low (suc n)) (rows up (suc n)) (all_rows Sound low (suc n) (λ i l. g i (omega arith))) (all_rows Sound up (suc n) (λ j l. h j (omega arith)))
        (all_rows (λ a. All (Fit A k a) (rows up (suc n))) low (suc n) (λ i l. all_rows (Fit A k (low i)) up (suc n) (λ j m. f i j (omega arith) (omega arith)))) in
        (r.0, (λ i l. rows_all (Over A k r.0) low (suc n) r.1 i (omega arith)), (λ j l. rows_all (Beneath A k r.0) up (suc n) r.2 j (omega arith)))
