-- What the loops that write a column or a row make of a sound matrix. Assumes nothing but the laws.
use Rattle.std.proofs.Common.{◌≡◌, ℕ, zero, suc, ◌+◌, ◌≤◌, List, sym, ◌∙◌, subst, arith}
use native.Mathlib.Decide.{ℕ_discrete}
use Rattle.differences.specs.Bounds.{Bound, Proper, none, size, arithmetic}
use Rattle.differences.specs.Laws.{Laws}
use Rattle.differences.proofs.Changing.{passed, without, reset}
use Rattle.limits.specs.Tightening.{matrix}
use Rattle.limits.specs.declared.limit.Limit.{Ghosts}
use Rattle.limits.proofs.Rows.{every_entry}
use Rattle.tables.specs.Matrices.{Passed, PutToZero}
use Rattle.tables.specs.Storage.{Freed, RowCopied, ColumnCopied}
use Rattle.tables.specs.Valuations.{Alike}
use Rattle.tables.proofs.Passing.{passed_shaped, passed_holds}
use Rattle.tables.proofs.Resetting.{without_same, without_other, reset_shaped, reset_holds}

freed_passed : (n : ℕ) (M N : ℕ → ℕ → Bound) → Freed n M N none (n + 1) → Alike n (passed none M) N
freed_passed n M N f zero j g h = f.rest zero j g h (λ a _ _. omega arith)
freed_passed n M N f (suc i) zero g h = f.done (suc i) (omega arith) (omega arith)
freed_passed n M N f (suc i) (suc j) g h = f.rest (suc i) (suc j) g h (λ _ _ a. omega arith)

passed_near : (reach n : ℕ) (M : ℕ → ℕ → Bound) → ((i j : ℕ) → i ≤ n → j ≤ n → size (M i j) ≤ reach) → (i j : ℕ) → i ≤ n → j ≤ n → size (passed none M i j) ≤ reach
passed_near reach n M near zero j g h = near zero j g h
passed_near reach n M near (suc i) zero g h = omega arith
passed_near reach n M near (suc i) (suc j) g h = near (suc i) (suc j) g h

within : (n x i : ℕ) → i ≤ n → without x i ≤ n
within n x i h = go (ℕ_discrete i x)
  where
    go : Dec (i ≡ x) → without x i ≤ n
    go (yes e) = omega (arith, without_same x i e)
    go (no d) = omega (arith, without_other x i d)

copied_reset : (n x : ℕ) (M K N : ℕ → ℕ → Bound) → x ≤ n → RowCopied n M K x (n + 1) → ColumnCopied n K N x (n + 1) → Alike n (reset x M) N
copied_reset n x M K N hx row column i j g h = across (ℕ_discrete j x)
  where
    down : (q : ℕ) → q ≤ n → Dec (i ≡ x) → K i q ≡ M (without x i) q
    down q k (yes e) = rw (without_same x i e, e) (row.done q (omega arith))
    down q k (no d) = rw (without_other x i d) (row.rest i q g k (λ a _. d a))

    across : Dec (j ≡ x) → N i j ≡ M (without x i) (without x j)
    across (yes e) = rw (without_same x j e, e) (column.done i (omega arith) ∙ down 0 (omega arith) (ℕ_discrete i x))
    across (no d) = rw (without_other x j d) (column.rest i j g h (λ _ a. d a) ∙ down j h (ℕ_discrete i x))

module _ {L : Type 0} (D : Ghosts L) (laws : Laws (arithmetic D.time)) (proper : (l : L) → Proper D.time (D.bound l)) (n : ℕ) (old new : List L) where
  entries : (i j : ℕ) → Proper D.time (matrix D old i j)
  entries = every_entry D.bound (Proper D.time) laws.proper_none proper old

  pub freed_sound : Freed n (matrix D old) (matrix D new) none (n + 1) → Passed D.time n (matrix D old) (matrix D new)
  freed_sound f reach s =
      let alike = freed_passed n (matrix D old) (matrix D new) f in (
        record {
          few = s.few;
          shaped = passed_shaped D.time laws n (matrix D old) (matrix D new) alike s.shaped;
          near = λ i j g h. subst (λ b. size b ≤ reach) (sym (alike i j g h)) (passed_near reach n (matrix D old) s.near i j g h);
        },
        passed_holds D.time laws n (matrix D old) (matrix D new) entries s.shaped alike,
      )

  pub copied_sound : (x : ℕ) (K : ℕ → ℕ → Bound) → 1 ≤ x → x ≤ n → RowCopied n (matrix D old) K x (n + 1) → ColumnCopied n K (matrix D new) x (n + 1) → PutToZero D.time n x (matrix D old) (matrix D new)
  copied_sound x K some hx row column reach s =
      let alike = copied_reset n x (matrix D old) K (matrix D new) hx row column in (
        record {
          few = s.few;
          shaped = reset_shaped D.time laws n (matrix D old) (matrix D new) x some hx alike s.shaped;
          near = λ i j g h. subst (λ b. size b ≤ reach) (sym (alike i j g h)) (s.near (without x i) (without x j) (within n x i g) (within n x j h));
        },
        reset_holds D.time laws n (matrix D old) (matrix D new) entries s.shaped x some hx alike,
      )
