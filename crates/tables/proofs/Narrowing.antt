-- A condition on a clock is a limit on a difference, and tightening by it leaves just the readings that meet it. Assumes nothing but the laws.
use Rattle.std.proofs.Common.{◌≡◌, ℕ, ◌+◌, ◌<◌, ◌≤◌, true, false, ◌⊎◌, ◌↔◌, ℤ, pos, ◌+ℤ◌, ◌-ℤ◌, ◌*ℤ◌, ◌≤ℤ◌, neg_ℤ, nat_abs, List, length, sym, ap, subst, inl, inr, arith}
use mathlib.Core.Path.{subst₃}
use mathlib.Core.Option.{Option, none, some, some-injective, none-ne-some}
use Rattle.std.proofs.lemmas.Int.{ints}
use Rattle.std.proofs.lemmas.Bool.{cond_both, both_ways}
use Rattle.differences.specs.Bounds.{Bound, none as free, upto, Time, fine, whole, Cut, Proper, IsMet, at_most, add, nought, size, arithmetic}
use Rattle.limits.specs.Comparisons.{Compares}
use Rattle.differences.specs.Laws.{Laws}
use Rattle.differences.specs.Matrix.{Tightened, least}
use Rattle.differences.specs.Refusals.{Refused, Accepted}
use Rattle.limits.specs.Tightening.{Fits, LeavesNothing, Narrows, Overflows, matrix}
use Rattle.limits.specs.declared.comparison.Comparison.{Comparison}
use Rattle.limits.specs.declared.comparison.Comparison.TheVariants.{Less, AtMost, Greater, AtLeast}
use Rattle.limits.specs.declared.limit.Limit.{Ghosts}
use Rattle.differences.proofs.Arithmetic.{less_than_meets}
use Rattle.differences.proofs.Products.{times_negated}
use Rattle.differences.proofs.Refusing.{refused_none}
use Rattle.limits.proofs.Rows.{every_entry}
use Rattle.tables.specs.Readings.{Reading, shows, difference}
use Rattle.tables.specs.Sets.{Same, None, Under, Tight, Far}
use Rattle.tables.specs.Rules.{NoClock, Outside, Narrowing}
use Rattle.tables.specs.Matrices.{Holds, Shaped, Sound, Exceeds, row_of, column_of, limit_of}
use Rattle.tables.specs.Valuations.{valued, holds_some, holds_tight, tight_agree}

-- a reading meets the limit exactly when its clock compares so with the constant
pub asked : (time : Time) (x : ℕ) (comparison : Comparison) (c : ℤ) (r : Reading) → Cut time r.cut → IsMet (limit_of time comparison c) (difference r (row_of comparison x) (column_of comparison x)) r.cut ↔ Compares comparison (pos (shows r x)) (c *ℤ pos r.cut)
asked time x Less c r cut = let m = less_than_meets time c (pos (shows r x) -ℤ pos 0) r.cut cut in (λ h. let g = m.0 h in omega (arith, ints), λ h. m.1 (omega (arith, ints)))
asked time x AtMost c r cut = (λ h. omega (arith, ints), λ h. omega (arith, ints))
asked time x Greater c r cut =
    let m = less_than_meets time (neg_ℤ c) (pos 0 -ℤ pos (shows r x)) r.cut cut in
    let e = times_negated c r.cut in
    (λ h. let g = m.0 h in omega (arith, ints), λ h. m.1 (omega (arith, ints)))
asked time x AtLeast c r cut = let e = times_negated c r.cut in (λ h. omega (arith, ints), λ h. omega (arith, ints))

-- ---- no sum on the way is too large
abs_add : (a b : ℤ) → nat_abs (a +ℤ b) ≤ nat_abs a + nat_abs b
abs_add a b = omega (arith, ints)

size_add : (x y : Bound) → size (add x y) ≤ size x + size y
size_add free y = omega arith
size_add (upto n s) free = omega arith
size_add (upto n s) (upto m t) = abs_add n m

size_asked : (time : Time) (comparison : Comparison) (c : ℤ) → nat_abs c ≤ 16000000 → size (limit_of time comparison c) ≤ 16000001
size_asked fine Less c h = omega arith
size_asked whole Less c h = omega (arith, ints)
size_asked time AtMost c h = omega arith
size_asked fine Greater c h = omega (arith, ints)
size_asked whole Greater c h = omega (arith, ints)
size_asked time AtLeast c h = omega (arith, ints)

row_within : (n x : ℕ) (comparison : Comparison) → x ≤ n → row_of comparison x ≤ n
row_within n x Less h = h
row_within n x AtMost h = h
row_within n x Greater h = omega arith
row_within n x AtLeast h = omega arith

column_within : (n x : ℕ) (comparison : Comparison) → x ≤ n → column_of comparison x ≤ n
column_within n x Less h = omega arith
column_within n x AtMost h = omega arith
column_within n x Greater h = h
column_within n x AtLeast h = h

not_above : (a b : ℕ) → (a < b → ⊥) → b ≤ a
not_above a b n = omega arith

-- the smaller of two limits is at most the first
under_first : (time : Time) → Laws (arithmetic time) → (p q : Bound) → at_most (least (arithmetic time) p q) p ≡ true
under_first time laws p q = cond_both (at_most p q) p q (λ b. at_most b p ≡ true) (λ e. same (laws.total p p)) (λ e. other e (laws.total p q))
  where
    same : (at_most p p ≡ true) ⊎ (at_most p p ≡ true) → at_most p p ≡ true
    same (inl h) = h
    same (inr h) = h

    other : at_most p q ≡ false → (at_most p q ≡ true) ⊎ (at_most q p ≡ true) → at_most q p ≡ true
    other e (inl h) = absurd (both_ways (at_most p q) e h)
    other e (inr h) = h

-- of tightening's three refusals only one is left
only_empty : {F O C : Type 0} {m : ℕ} → F → (O → ⊥) → Refused 20 (F → ⊥) (Refused 16 O (Refused 15 C Accepted)) (some m) → m ≡ 15
only_empty f n (inl h) = absurd (h.0 f)
only_empty f n (inr (_, inl h)) = absurd (n h.0)
only_empty f n (inr (_, inr (_, inl h))) = some-injective _ _ h.1
only_empty f n (inr (_, inr (_, inr h))) = absurd (none-ne-some _ (sym h.1))

-- the condition that clock x compares so with c is the limit l on clock a less clock b, and may be put on the matrix M
pub record Asks (time : Time) (reach n : ℕ) (M : ℕ → ℕ → Bound) (x : ℕ) (comparison : Comparison) (c : ℤ) (a b : ℕ) (l : Bound) : Type 0 where
  pub some_clock : 1 ≤ x
  pub a_clock : x ≤ n
  pub from_zero : pos 0 ≤ℤ c
  pub to_longest : c ≤ℤ pos 16000000
  pub near : reach ≤ 1000000000
  pub sound : Sound time reach n M
  pub row : a ≡ row_of comparison x
  pub column : b ≡ column_of comparison x
  pub limit : l ≡ limit_of time comparison c

module _ {L : Type 0} (D : Ghosts L) (laws : Laws (arithmetic D.time)) {reach n : ℕ} {M : ℕ → ℕ → Bound} {x : ℕ} {comparison : Comparison} {c : ℤ} {a b : ℕ} {l : Bound} (asks : Asks D.time reach n M x comparison c a b l) where
  no_clock : NoClock n x → ⊥
  no_clock (inl e) = omega (arith, asks.some_clock)
  no_clock (inr g) = omega (arith, asks.a_clock)

  outside : Outside c → ⊥
  outside (inl e) = omega (arith, ints, asks.from_zero)
  outside (inr e) = omega (arith, ints, asks.to_longest)

  a_row : a ≤ n
  a_row = omega (arith, asks.row, row_within n x comparison asks.a_clock)

  a_column : b ≤ n
  a_column = omega (arith, asks.column, column_within n x comparison asks.a_clock)

  no_overflow : Overflows D n a b l M → ⊥
  no_overflow o = large o.4
    where
      first : size (add (M o.0 a) l) ≤ reach + 16000001
      first = omega (arith, size_add (M o.0 a) l, ap size asks.limit, size_asked D.time comparison c (omega (arith, ints, asks.from_zero, asks.to_longest)), asks.sound.near o.0 a o.2 a_row)

      large : (4000000000 < size (add (M o.0 a) l)) ⊎ (4000000000 < size (add (add (M o.0 a) l) (M b o.1))) → ⊥
      large (inl h) = omega (arith, first, asks.near)
      large (inr h) = omega (arith, first, asks.near, size_add (add (M o.0 a) l) (M b o.1), asks.sound.near b o.1 a_column o.3)

  met : (r : Reading) → Cut D.time r.cut → IsMet l (difference r a b) r.cut ↔ Compares comparison (pos (shows r x)) (c *ℤ pos r.cut)
  met r cut = subst₃ (λ p q t. IsMet t (difference r p q) r.cut ↔ Compares comparison (pos (shows r x)) (c *ℤ pos r.cut)) (sym asks.row) (sym asks.column) (sym asks.limit) (asked D.time x comparison c r cut)

  -- where tightening was refused, nothing meets the condition
  pub none_left : (limits : List L) {m : ℕ} {C : Type 0} → length limits ≡ 64 → Refused 20 (Fits limits n a b → ⊥) (Refused 16 (Overflows D n a b l M) (Refused 15 C Accepted)) (some m) → (m ≡ 15 → LeavesNothing D n a b l M) → Narrowing D.time reach n (Holds D.time n M) x comparison c (some m)
  none_left limits square refused leaves =
      let fifteen = only_empty (record { square = square; few = asks.sound.few; row = a_row; column = a_column }) no_overflow refused in
      inr (no_clock, inr (outside, inl (λ r u. leaves fifteen (valued r) r.cut u.0.0.0 u.0.1 ((met r u.0.0.0).1 u.1), ap some fifteen)))

  -- where it was not, what is left keeps just what meets the condition
  module _ (proper : (l : L) → Proper D.time (D.bound l)) (new : List L) (tightened : Tightened (arithmetic D.time) n a b l M (matrix D new)) (narrows : Narrows D n a b l M (matrix D new)) where
    entries : (i j : ℕ) → Proper D.time (matrix D new i j)
    entries = every_entry D.bound (Proper D.time) laws.proper_none proper new

    still_shaped : Shaped D.time n (matrix D new)
    still_shaped = record {
      closed = (narrows asks.sound.shaped.closed).0;
      natural = λ j h. laws.trans (matrix D new 0 j) (M 0 j) nought (subst (λ e. at_most e (M 0 j) ≡ true) (sym (tightened 0 j (omega arith) h)) (under_first D.time laws (M 0 j) (add (add (M 0 a) l) (M b j)))) (asks.sound.shaped.natural j h);
    }

    pub kept : Same (Holds D.time n (matrix D new)) (Under x comparison c (Holds D.time n M))
    kept r =
        let members = (narrows asks.sound.shaped.closed).1 (valued r) r.cut in (
          λ h. let m = (members h.0.0).0 h.1 in ((h.0, m.0), (met r h.0.0).0 m.1),
          λ h. (h.0.0, (members h.0.0.0).1 (h.0.1, (met r h.0.0.0).1 h.1)),
        )

    some_left : None (Under x comparison c (Holds D.time n M)) → ⊥
    some_left none_of = let r = holds_some D.time laws n (matrix D new) entries still_shaped in none_of r.0 ((kept r.0).0 r.1)

    -- the limits that are left are the tight limits of what is kept
    tells : (i j : ℕ) → i ≤ n → j ≤ n → Tight D.time (Under x comparison c (Holds D.time n M)) i j (matrix D new i j)
    tells i j g h = tight_agree D.time laws (Holds D.time n (matrix D new)) (Under x comparison c (Holds D.time n M)) kept i j (matrix D new i j) (holds_tight D.time laws n (matrix D new) entries still_shaped i j g h)

    exceeds : Far D.time reach n (Under x comparison c (Holds D.time n M)) → Exceeds reach n (matrix D new)
    exceeds f =
        let t = tells f.row f.column f.in_rows f.in_columns in
        let e : f.limit ≡ matrix D new f.row f.column = laws.antisym f.limit (matrix D new f.row f.column) (f.tight.smallest (matrix D new f.row f.column) t.proper t.keeps) (t.smallest f.limit f.tight.proper f.tight.keeps) in
        (f.row, f.column, f.in_rows, f.in_columns, subst (λ b. reach < size b) e f.far)

    pub left : (o : Option ℕ) → Refused 16 (Exceeds reach n (matrix D new)) Accepted o → Narrowing D.time reach n (Holds D.time n M) x comparison c o
    left o refused = inr (no_clock, inr (outside, inr (some_left, far refused)))
      where
        far : Refused 16 (Exceeds reach n (matrix D new)) Accepted o → Refused 16 (Far D.time reach n (Under x comparison c (Holds D.time n M))) Accepted o
        far (inl (e, h)) = inl (record { row = e.0; column = e.1; limit = matrix D new e.0 e.1; in_rows = e.2; in_columns = e.3; tight = tells e.0 e.1 e.2 e.3; far = e.4 }, h)
        far (inr (n, h)) = inr (λ f. n (exceeds f), h)

    pub still_sound : Refused 16 (Exceeds reach n (matrix D new)) Accepted none → Sound D.time reach n (matrix D new)
    still_sound refused = record { few = asks.sound.few; shaped = still_shaped; near = λ i j g h. not_above reach (size (matrix D new i j)) (λ l. refused_none (Exceeds reach n (matrix D new)) refused (i, j, g, h, l)) }
