-- Equal fractions are the same reading. Assumes nothing but what a table owes.
use Rattle.std.proofs.Common.{◌≡◌, ℕ, zero, suc, ◌*◌, ◌≤◌, List, [], ◌∷◌, map, get_or, sym, refl, ap, ◌∙◌, mul-zero, arith}
use native.Mathlib.Nat.{eq_of_mul-eq-mul_left}
use Rattle.std.proofs.lemmas.List.{length-map}
use Rattle.differences.specs.Bounds.{arithmetic}
use Rattle.differences.specs.Laws.{Laws}
use Rattle.limits.specs.declared.limit.Limit.{Ghosts as LimitGhosts}
use Rattle.tables.specs.Matrices.{row_of, column_of, limit_of}
use Rattle.tables.specs.Readings.{Reading, Sized, SameReading, shows, later, zeroed}
use Rattle.tables.specs.Theorems.{Fractions, CutFree, refined}
use Rattle.tables.specs.declared.table.Table.{Ghosts as TableGhosts}
use Rattle.tables.proofs.Narrowing.{asked}
use Rattle.tables.specs.Valuations.{same_sym, meets_same}

scaled_at : (m : ℕ) (xs : List ℕ) (i : ℕ) → get_or (map (λ x. m * x) xs) i 0 ≡ m * get_or xs i 0
scaled_at m [] i = sym (mul-zero m)
scaled_at m (x ∷ xs) zero = refl
scaled_at m (x ∷ xs) (suc i) = scaled_at m xs i

shows_refined : (m : ℕ) (r : Reading) (i : ℕ) → shows (refined m r) i ≡ m * shows r i
shows_refined m r zero = sym (mul-zero m)
shows_refined m r (suc i) = scaled_at m r.parts i

pub same_trans : (r s t : Reading) → 1 ≤ s.cut → SameReading r s → SameReading s t → SameReading r t
same_trans r s t some g h = (g.0 ∙ h.0, λ i. eq_of_mul-eq-mul_left s.cut some (shows r i * t.cut) (shows t i * r.cut) (let a = ap (λ x. x * t.cut) (g.1 i) in let b = ap (λ x. x * r.cut) (h.1 i) in omega arith))

module _ {T L : Type 0} (D : TableGhosts T L) (E : LimitGhosts L) (laws : Laws (arithmetic E.time)) (sized : (t : T) (r : Reading) → D.member t r → Sized E.time (D.size t) r) (same : (t : T) → CutFree E.time (D.member t)) where
  pub fractions : Fractions D E
  fractions = record {
    reflexive = λ r. (refl, λ i. refl);
    symmetric = same_sym;
    transitive = same_trans;
    refining = λ m some r. (sym (length-map r.parts (λ x. m * x)), λ i. let e = ap (λ x. x * r.cut) (shows_refined m r i) in omega arith);
    members = same;
    zeros = λ n r s e cut h. ((cut, sym e.0 ∙ h.0.1), λ i. eq_of_mul-eq-mul_left r.cut (laws.cut_some r.cut h.0.0) (shows s i) 0 (let a = e.1 i in let b = ap (λ x. x * s.cut) (h.1 i) in omega arith));
    passing = λ t r s e cut h. (cut, (h.1.0, h.1.1, h.1.2, same_trans s r (later h.1.1 h.1.0) (laws.cut_some r.cut h.0) (same_sym r s e) h.1.3));
    resetting = λ t x r s e cut h. (cut, (h.1.0, h.1.1, same_trans s r (zeroed x h.1.0) (laws.cut_some r.cut h.0) (same_sym r s e) h.1.2));
    narrowing = λ t x comparison c r s e cut h.
        let here = (sized t r h.0).0 in
        (same t r s e cut h.0, (asked E.time x comparison c s cut).0 (meets_same E.time laws (limit_of E.time comparison c) r s e here cut (row_of comparison x) (column_of comparison x) ((asked E.time x comparison c r here).1 h.1)));
  }
