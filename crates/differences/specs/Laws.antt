-- What the work on limits may use of an arithmetic of limits: its laws. Assumes nothing.
use Rattle.std.specs.Prelude.{◌≡◌, ℕ, ◌*◌, ◌≤◌, Bool, true, ◌⊎◌, ◌↔◌, ℤ, pos, ◌-ℤ◌, ◌*ℤ◌, ◌≤ℤ◌}

pub record Arithmetic (B : Type 0) : Type 1 where
  -- the order, the sum, the limit `<=0`, and the limit that limits nothing
  pub leq : B → B → Bool
  pub add : B → B → B
  pub nought : B
  pub none : B
  -- a difference, in parts of a cut, keeps a limit
  pub meets : B → ℤ → ℕ → Type 0
  -- the limits and the cuts that the kind of time has
  pub Proper : B → Type 0
  pub Cut : ℕ → Type 0
  pub finer : ℕ

pub record Laws {B : Type 0} (A : Arithmetic B) : Type 0 where
  -- the order is total
  pub total : (a b : B) → (A.leq a b ≡ true) ⊎ (A.leq b a ≡ true)
  pub trans : (a b c : B) → A.leq a b ≡ true → A.leq b c ≡ true → A.leq a c ≡ true
  pub antisym : (a b : B) → A.leq a b ≡ true → A.leq b a ≡ true → a ≡ b
  pub top : (a : B) → A.leq a A.none ≡ true
  -- the sum is associative and commutative, keeps the order, and has `<=0` as its neutral limit
  pub assoc : (a b c : B) → A.add (A.add a b) c ≡ A.add a (A.add b c)
  pub comm : (a b : B) → A.add a b ≡ A.add b a
  pub mono : (a a' b b' : B) → A.leq a a' ≡ true → A.leq b b' ≡ true → A.leq (A.add a b) (A.add a' b') ≡ true
  pub neutral : (a : B) → A.add A.nought a ≡ a
  pub free : (a : B) → A.add A.none a ≡ A.none
  -- what keeps a limit
  pub all : (p : ℤ) (k : ℕ) → A.meets A.none p k
  pub zero_or_less : (p : ℤ) (k : ℕ) → A.meets A.nought p k ↔ (p ≤ℤ pos 0)
  pub lower : (a : B) (p' p : ℤ) (k : ℕ) → p' ≤ℤ p → A.meets a p k → A.meets a p' k
  -- a difference is the same at every cut
  pub scale : (a : B) (p : ℤ) (k m : ℕ) → 1 ≤ m → A.meets a p k ↔ A.meets a (pos m *ℤ p) (m * k)
  -- a difference keeps a sum exactly when it splits into two, one keeping each limit
  pub splits : (a b : B) (p : ℤ) (k : ℕ) → A.Proper a → A.Proper b → A.Cut k → A.meets (A.add a b) p k ↔ ((q : ℤ) × A.meets a q (A.finer * k) × A.meets b (pos A.finer *ℤ p -ℤ q) (A.finer * k))
  -- one limit is at most another exactly when all that keeps it keeps the other
  pub most : (a b : B) → A.Proper a → A.Proper b → (A.leq a b ≡ true) ↔ ((p : ℤ) (k : ℕ) → A.Cut k → A.meets a p k → A.meets b p k)
  -- the limits of a kind of time are closed under the sum, and its cuts under refining
  pub proper_add : (a b : B) → A.Proper a → A.Proper b → A.Proper (A.add a b)
  pub proper_nought : A.Proper A.nought
  pub proper_none : A.Proper A.none
  pub cut_one : A.Cut 1
  pub cut_some : (k : ℕ) → A.Cut k → 1 ≤ k
  pub cut_finer : (k : ℕ) → A.Cut k → A.Cut (A.finer * k)
  pub finer_some : 1 ≤ A.finer
