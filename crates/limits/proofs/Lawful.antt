-- The laws of the model are laws of the limits themselves. Assumes nothing but what each implementation owes.
use Rattle.std.proofs.Common.{◌≡◌, true, sym, ap, ◌∙◌, subst, subst₂}
use Rattle.differences.specs.Bounds.{Bound, Proper, at_most, add, IsMet, arithmetic}
use Rattle.differences.specs.Laws.{Laws}
use Rattle.limits.specs.Theorems.{LimitLaws}
use Rattle.limits.specs.declared.limit.Limit.{Ghosts}

module _ {L : Type 0} (D : Ghosts L) (laws : Laws (arithmetic D.time)) (proper : (a : L) → Proper D.time (D.bound a)) (one : (a b : L) → D.bound a ≡ D.bound b → a ≡ b) where
  abbrev f : L → Bound
  f = D.bound

  pub limit_laws : LimitLaws D
  limit_laws = record {
    total = λ a b. laws.total (f a) (f b);
    antisymmetric = λ a b g h. one a b (laws.antisym (f a) (f b) g h);
    transitive = λ a b c. laws.trans (f a) (f b) (f c);
    associative = λ a b c ab bc x y e g h i. one x y (g ∙ ap (λ l. add l (f c)) e ∙ laws.assoc (f a) (f b) (f c) ∙ ap (add (f a)) (sym h) ∙ sym i);
    commutative = λ a b x y g h. one x y (g ∙ laws.comm (f a) (f b) ∙ sym h);
    monotone = λ a a' b b' x y g h i j. subst₂ (λ s t. at_most s t ≡ true) (sym i) (sym j) (laws.mono (f a) (f a') (f b) (f b') g h);
    neutral = λ z a e. sym (ap (λ l. add l (f a)) e ∙ laws.neutral (f a));
    splitting = λ a b c e p k cut. let s = laws.splits (f a) (f b) p k (proper a) (proper b) cut in (λ h. s.0 (subst (λ l. IsMet l p k) e h), λ h. subst (λ l. IsMet l p k) (sym e) (s.1 h));
    at_most_is = λ a b. laws.most (f a) (f b) (proper a) (proper b);
  }
