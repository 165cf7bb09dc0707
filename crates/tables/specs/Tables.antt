-- What a table with a sound matrix owes, for either kind of time. Assumes nothing but the laws.
use Rattle.std.specs.Prelude.{◌≡◌, ℕ, zero, suc, ◌*◌, ◌+◌, ◌≤◌, List, [], ◌∷◌, length, map, slice_index_or, refl}
use Rattle.std.proofs.Common.{sym, subst, arith}
use Rattle.std.proofs.lemmas.List.{get_or-map}
use Rattle.differences.specs.Bounds.{Bound, none, Time, Proper, IsMet, nought, size, arithmetic}
use Rattle.differences.specs.Laws.{Laws}
use Rattle.differences.specs.Matrix.{entry}
use Rattle.limits.proofs.Rows.{every_entry}
use Rattle.tables.specs.Readings.{Reading, Sized, difference}
use Rattle.tables.specs.Sets.{Tight}
use Rattle.tables.specs.Matrices.{Holds, Sound}
use Rattle.tables.specs.Recovering.{recovered}
use Rattle.tables.specs.Storage.{limit_at}
use Rattle.tables.specs.Valuations.{holds_some, holds_tight, zeros_shaped}

module _ {L : Type 0} (f : L → Bound) where
  -- the limit that is told is the entry that is stored: of any list, by a limit `free` that is none, and of eight rows of eight
  pub told_entry : (free : L) → f free ≡ none → (limits : List L) (p : ℕ) → slice_index_or (map f limits) p none ≡ f (slice_index_or limits p free)
  told_entry free e [] p = sym e
  told_entry free e (x ∷ limits) zero = refl
  told_entry free e (x ∷ limits) (suc p) = told_entry free e limits p

  stored_entry : (limits : List L) (square : length limits ≡ 64) (i j : ℕ) → i ≤ 7 → j ≤ 7 → entry f limits i j ≡ f (limit_at limits square i j)
  stored_entry [] square i j g h = absurd (omega arith)
  stored_entry (first ∷ limits) square i j g h = get_or-map f (first ∷ limits) (i * 8 + j) first none (omega arith)

  module _ (time : Time) (laws : Laws (arithmetic time)) (proper : (l : L) → Proper time (f l)) (reach n : ℕ) (limits : List L) (sound : ∥ Sound time reach n (entry f limits) ∥₁) where
    pub found_some : (r : Reading) × Holds time n (entry f limits) r
    found_some = holds_some time laws n (entry f limits) (every_entry f (Proper time) laws.proper_none proper limits) (recovered sound).shaped

    entry_tight : (i j : ℕ) → i ≤ n → j ≤ n → Tight time (Holds time n (entry f limits)) i j (entry f limits i j)
    entry_tight = holds_tight time laws n (entry f limits) (every_entry f (Proper time) laws.proper_none proper limits) (recovered sound).shaped

    pub told_tight : (free : L) → f free ≡ none → (i j : ℕ) → i ≤ n → j ≤ n → Tight time (Holds time n (entry f limits)) i j (f (slice_index_or limits (i * 8 + j) free))
    told_tight free e i j g h = subst (Tight time (Holds time n (entry f limits)) i j) (told_entry free e limits (i * 8 + j)) (entry_tight i j g h)

    pub stored_tight : (square : length limits ≡ 64) (i j : ℕ) → i ≤ n → j ≤ n → Tight time (Holds time n (entry f limits)) i j (f (limit_at limits square i j))
    stored_tight square i j g h =
        let s = recovered sound in
        subst (Tight time (Holds time n (entry f limits)) i j) (stored_entry limits square i j (omega (arith, s.few)) (omega (arith, s.few))) (entry_tight i j g h)

  pub told_members : (time : Time) (n : ℕ) (limits : List L) (free : L) → f free ≡ none → (r : Reading) → Sized time n r → ((i j : ℕ) → i ≤ n → j ≤ n → IsMet (f (slice_index_or limits (i * 8 + j) free)) (difference r i j) r.cut) → Holds time n (entry f limits) r
  told_members time n limits free e r sized h = (sized, λ i j a b. subst (λ l. IsMet l (difference r i j) r.cut) (sym (told_entry free e limits (i * 8 + j))) (h i j a b))

  pub stored_members : (time : Time) (n : ℕ) → n ≤ 7 → (limits : List L) (square : length limits ≡ 64) (r : Reading) → Sized time n r → ((i j : ℕ) → i ≤ n → j ≤ n → IsMet (f (limit_at limits square i j)) (difference r i j) r.cut) → Holds time n (entry f limits) r
  stored_members time n few limits square r sized h = (sized, λ i j a b. subst (λ l. IsMet l (difference r i j) r.cut) (sym (stored_entry limits square i j (omega arith) (omega arith))) (h i j a b))

-- all limits `<=0`
pub zeros_sound : (time : Time) → Laws (arithmetic time) → (reach n : ℕ) (M : ℕ → ℕ → Bound) → n ≤ 7 → ((i j : ℕ) → i ≤ n → j ≤ n → M i j ≡ nought) → Sound time reach n M
zeros_sound time laws reach n M few zeros = record { few = few; shaped = zeros_shaped time laws n M zeros; near = λ i j g h. subst (λ b. size b ≤ reach) (sym (zeros i j g h)) (omega arith) }
