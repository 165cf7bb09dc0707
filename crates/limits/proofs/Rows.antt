-- One limit more of a row, and one row more of a matrix. Assumes nothing but the laws.
use Rattle.std.proofs.Common.{◌≡◌, ℕ, zero, suc, ◌+◌, ◌*◌, ◌<◌, ◌≤◌, true, List, [], ◌∷◌, map, length, get_or, set, sym, refl, ap, ◌∙◌, subst, inl, inr, arith, get_or-set_other, get_or-set_same}
use native.Mathlib.Decide.{ℕ_discrete}
use Rattle.std.proofs.lemmas.List.{length-map}
use Rattle.std.proofs.lemmas.Bool.{cond-true}
use Rattle.differences.specs.Bounds.{Bound, Time, none, add, at_most, nought, arithmetic}
use Rattle.differences.specs.Laws.{Laws}
use Rattle.differences.specs.Matrix.{entry, least}
use Rattle.limits.specs.Tightening.{Row, Written}

-- the rows below i are done up to column n, row b is as it was, and so is all else
pub record Rows (time : Time) (n a b i : ℕ) (c : Bound) (old new : ℕ → ℕ → Bound) : Type 0 where
  pub done : (p q : ℕ) → p < i → q ≤ n → new p q ≡ least (arithmetic time) (old p q) (add (add (old p a) c) (old b q))
  pub rest : (p q : ℕ) → p ≤ 7 → q ≤ 7 → (p < i → n < q) → new p q ≡ old p q
  pub base : (q : ℕ) → q ≤ n → new b q ≡ old b q

module _ {L : Type 0} (f : L → Bound) where
  every : (P : Bound → Type 0) → P none → ((x : L) → P (f x)) → (M : List L) (p : ℕ) → P (get_or (map f M) p none)
  every P o h [] p = o
  every P o h (x ∷ M) zero = h x
  every P o h (x ∷ M) (suc p) = every P o h M p

  -- what holds of no limit and of each limit holds of each entry
  pub every_entry : (P : Bound → Type 0) → P none → ((x : L) → P (f x)) → (M : List L) (i j : ℕ) → P (entry f M i j)
  every_entry P o h M i j = every P o h M (i * 8 + j)

  map_set : (M : List L) (p : ℕ) (x : L) → map f (set M p x) ≡ set (map f M) p (f x)
  map_set [] p x = refl
  map_set (y ∷ M) zero x = refl
  map_set (y ∷ M) (suc p) x = ap (λ l. f y ∷ l) (map_set M p x)

  -- one limit was written
  pub entry_same : (M : List L) (i j p : ℕ) (x : L) → p < length M → p ≡ i * 8 + j → entry f (set M p x) i j ≡ f x
  entry_same M i j p x h e = ap (λ l. get_or l (i * 8 + j) none) (map_set M p x) ∙ ap (λ q. get_or (set (map f M) p (f x)) q none) (sym e) ∙ get_or-set_same (map f M) p (f x) none (omega (arith, length-map M f))

  pub entry_other : (M : List L) (i j p i' j' : ℕ) (x : L) → p ≡ i * 8 + j → j ≤ 7 → j' ≤ 7 → (i' ≡ i → j' ≡ j → ⊥) → entry f (set M p x) i' j' ≡ entry f M i' j'
  entry_other M i j p i' j' x e h h' n = ap (λ l. get_or l (i' * 8 + j') none) (map_set M p x) ∙ get_or-set_other (map f M) p (i' * 8 + j') (f x) none (λ g. n (omega arith) (omega arith))

pub written : {L : Type 0} (f : L → Bound) (M : List L) (i j : ℕ) (x : L) → length M ≡ 64 → i ≤ 7 → j ≤ 7 → Written 7 (entry f M) (entry f (set M (i * 8 + j) x)) i j (f x)
written f M i j x square hi hj = record {
  done = entry_same f M i j (i * 8 + j) x (omega arith) refl;
  rest = λ p q h k d. entry_other f M i j (i * 8 + j) p q x refl hj k d;
}

-- x, which was written, is the smaller of what was there and of what goes over z
pub row_next : {time : Time} {i b j m : ℕ} {s x y z o : Bound} {old cur new : ℕ → ℕ → Bound} → i ≤ 7 → b ≤ 7 → j ≤ 7 → m ≡ j + 1 → Row time i b j s old cur → Written 7 cur new i j x → x ≡ least (arithmetic time) y o → y ≡ cur i j → o ≡ add s z → z ≡ cur b j → Row time i b m s old new
row_next {time} {i} {b} {j} {m} {s} {x} {y} {z} {o} {old} {cur} {new} hi hb hj em inv w is ey eo ez = record {
  done = λ q h. by_column q h (ℕ_discrete q j);
  rest = λ p q g h d. w.rest p q g h (λ t u. let k = d t in omega arith) ∙ inv.rest p q g h (λ t. let k = d t in omega arith);
}
  where
    by_column : (q : ℕ) → q < m → Dec (q ≡ j) → new i q ≡ least (arithmetic time) (old i q) (add s (old b q))
    by_column q h (yes t) = rw t (w.done ∙ is ∙ (λ u. least (arithmetic time) ((ey ∙ inv.rest i j hi hj (λ _. omega arith)) u) ((eo ∙ ap (add s) (ez ∙ inv.rest b j hb hj (λ _. omega arith))) u)))
    by_column q h (no d) = w.rest i q hi (omega arith) (λ _ t. d t) ∙ inv.done q (omega arith)

module _ (time : Time) (laws : Laws (arithmetic time)) where
  same : (x : Bound) → at_most x x ≡ true
  same x = elim (laws.total x x) [ inl h ↦ h | inr h ↦ h ]

  -- to go round by what is not below zero says no more
  stays : (x s : Bound) → at_most nought s ≡ true → least (arithmetic time) x (add s x) ≡ x
  stays x s h = cond-true (at_most x (add s x)) x (add s x) (subst (λ y. at_most y (add s x) ≡ true) (laws.neutral x) (laws.mono nought s x x h (same x)))

  -- row i, with s for the way to it over c
  pub rows_next : {n a b i m : ℕ} {c s x : Bound} {old cur new : ℕ → ℕ → Bound} → n ≤ 7 → a ≤ n → b ≤ n → i ≤ n → m ≡ i + 1 → at_most nought (add (old b a) c) ≡ true → Rows time n a b i c old cur → s ≡ add x c → x ≡ cur i a → Row time i b (n + 1) s cur new → Rows time n a b m c old new
  rows_next {n} {a} {b} {i} {m} {c} {s} {x} {old} {cur} {new} few ha hb hi em leaves inv sum ex row = record {
    done = λ p q g h. by_row p q g h (ℕ_discrete p i);
    rest = λ p q g h k. row.rest p q g h (λ e. let l = k (omega arith) in omega arith) ∙ inv.rest p q g h (λ l. k (omega arith));
    base = λ q h. based q h (ℕ_discrete b i);
  }
    where
      -- row i of the matrix so far is as it was
      here : (q : ℕ) → q ≤ n → cur i q ≡ old i q
      here q h = inv.rest i q (omega arith) (omega arith) (λ l. omega arith)

      first : s ≡ add (old i a) c
      first = sum ∙ ap (λ y. add y c) (ex ∙ here a ha)

      by_row : (p q : ℕ) → p < m → q ≤ n → Dec (p ≡ i) → new p q ≡ least (arithmetic time) (old p q) (add (add (old p a) c) (old b q))
      by_row p q g h (yes e) = rw e (row.done q (omega arith) ∙ (λ t. least (arithmetic time) (here q h t) (add (first t) (inv.base q h t))))
      by_row p q g h (no d) = row.rest p q (omega arith) (omega arith) (λ e. absurd (d e)) ∙ inv.done p q (omega arith) h

      based : (q : ℕ) → q ≤ n → Dec (b ≡ i) → new b q ≡ old b q
      based q h (no d) = row.rest b q (omega arith) (omega arith) (λ e. absurd (d e)) ∙ inv.base q h
      based q h (yes e) =
          let up : at_most nought s ≡ true = ap (at_most nought) (first ∙ ap (λ p. add (old p a) c) (sym e)) ∙ leaves in
          let now : new i q ≡ least (arithmetic time) (cur i q) (add s (cur i q)) = row.done q (omega arith) ∙ ap (λ p. least (arithmetic time) (cur i q) (add s (cur p q))) e in
          ap (λ p. new p q) e ∙ now ∙ stays (cur i q) s up ∙ ap (λ p. cur p q) (sym e) ∙ inv.base q h
