-- Names: which lines are names, where they stand among others, and which are distinct. Assumes nothing.
use Rattle.std.proofs.Common.{◌≡◌, ℕ, zero, suc, ◌+◌, Bool, true, false, cond, ◌&&◌, eqb, leb, ◌⊎◌, List, [], ◌∷◌, ◌++◌, map, length, Some, None, Ok, Err, Decides, Option, sym, refl, ap, ◌∙◌, inl, inr, ⊎_elim, append_assoc, append-nil, arith}
use Rattle.std.specs.Str.{bytes_eq}
use Rattle.std.proofs.lemmas.Slice.Eq.{bytes_eq-Decides}
use Rattle.std.proofs.lemmas.List.{map_push, nil_from_length}
use Rattle.std.proofs.lemmas.Bool.{false≢true, and_parts, or_left, eqb-true}
use Rattle.text.specs.declared.flaw.Flaw.TheVariants.{Form}
use Rattle.text.specs.Bytes.{is_lower, is_digit, in_name, all_in_name, is_name}
use Rattle.text.specs.Pieces.{pieces, first_piece, later_pieces}
use Rattle.lines.specs.Lookup.{position, unknown, declared_anew}
use Rattle.show.specs.Layout.{Among, Distinct, At}
use Rattle.show.proofs.Folding.{Both}
use Rattle.show.proofs.Taking.{ok_same, err_ok, cond_ok}

-- a row that is one piece is that piece
whole_piece : (c : ℕ) (l : List ℕ) → later_pieces c l ≡ [] → first_piece c l ≡ l
whole_piece c [] e = refl
whole_piece c (x ∷ xs) e =
    elim (eqb x c) as (λ b. cond b (pieces c xs) (later_pieces c xs) ≡ [] → cond b [] (x ∷ first_piece c xs) ≡ x ∷ xs) [ true ↦ λ h. cc | false ↦ λ h. ap (λ l. x ∷ l) (whole_piece c xs h) ] e

-- and so is what has one piece
pub one_piece : (c : ℕ) (l : List ℕ) → length (pieces c l) ≡ 1 → first_piece c l ≡ l
one_piece c l e = whole_piece c l (nil_from_length (later_pieces c l) (omega arith))

-- no byte of a name is a space
not_space : (b : ℕ) → in_name b ≡ true → eqb b 32 ≡ false
not_space b h = elim (eqb b 32) as (λ t. (t ≡ true → b ≡ 32) → t ≡ false) [ true ↦ λ is. absurd (false≢true (ap in_name (sym (is refl)) ∙ h)) | false ↦ λ is. refl ] (eqb-true b 32)

no_later : (l : List ℕ) → all_in_name l ≡ true → later_pieces 32 l ≡ []
no_later [] h = refl
no_later (b ∷ bs) h = let p = and_parts (in_name b) (all_in_name bs) h in rw (not_space b p.0) (no_later bs p.1)

name_bytes : (l : List ℕ) → is_name l ≡ true → all_in_name l ≡ true
name_bytes [] h = absurd (false≢true h)
name_bytes (b ∷ bs) h =
    let p = and_parts (is_lower b) (all_in_name bs && leb (length (b ∷ bs)) 12) h in
    rw (or_left (is_lower b) (is_digit b) p.0) (and_parts (all_in_name bs) (leb (length (b ∷ bs)) 12) p.1).0

-- a name has one field
pub name_pieces : (l : List ℕ) → is_name l ≡ true → pieces 32 l ≡ l ∷ []
name_pieces l h = let later = no_later l (name_bytes l h) in rw (whole_piece 32 l later, later) refl

module _ {X : Type 0} where
  -- what stands behind some is among all
  among_middle : (x : X) (xs ys : List X) → Among x (xs ++ x ∷ ys)
  among_middle x [] ys = inl refl
  among_middle x (z ∷ xs) ys = inr (among_middle x xs ys)

  -- among a list with one more: among the list, or that one
  among_push : (x y : X) (xs : List X) → Among y (xs ++ x ∷ []) → Among y xs ⊎ (x ≡ y)
  among_push x y [] (inl e) = inr e
  among_push x y [] (inr a) = inl a
  among_push x y (z ∷ xs) (inl e) = inl (inl e)
  among_push x y (z ∷ xs) (inr a) = ⊎_elim (λ b. inl (inr b)) inr (among_push x y xs a)

  -- distinct elements and a new one are distinct
  pub distinct_push : (x : X) (xs : List X) → Distinct xs → (Among x xs → ⊥) → Distinct (xs ++ x ∷ [])
  distinct_push x [] d f = (λ a. a, tt)
  distinct_push x (z ∷ xs) d f = (λ a. ⊎_elim d.0 (λ e. f (inl (sym e))) (among_push x z xs a), distinct_push x xs d.1 (λ a. f (inr a)))

  -- of distinct elements none is among those before it
  pub distinct_front : (x : X) (xs ys : List X) → Distinct (xs ++ x ∷ ys) → Among x xs → ⊥
  distinct_front x (z ∷ xs) ys d (inl e) = d.0 (rw e (among_middle x xs ys))
  distinct_front x (z ∷ xs) ys d (inr a) = distinct_front x xs ys d.1 a
  distinct_front x [] ys d a = a

  -- what stands at a place stays there when more is put behind
  pub at_front : (i : ℕ) (xs ys : List X) (x : X) → At i xs x → At i (xs ++ ys) x
  at_front i [] ys x h = absurd h
  at_front zero (y ∷ xs) ys x h = h
  at_front (suc i) (y ∷ xs) ys x h = at_front i xs ys x h

  -- what is put behind stands behind all the others
  pub at_last : (xs : List X) (x : X) → At (length xs) (xs ++ x ∷ []) x
  at_last [] x = refl
  at_last (y ∷ xs) x = at_last xs x

  -- what stands at a place is among them
  at_among : (i : ℕ) (xs : List X) (x : X) → At i xs x → Among x xs
  at_among i [] x h = absurd h
  at_among zero (y ∷ xs) x h = inl h
  at_among (suc i) (y ∷ xs) x h = inr (at_among i xs x h)

  -- of distinct elements each stands at one place
  pub at_once : (i j : ℕ) (xs : List X) (x : X) → Distinct xs → At i xs x → At j xs x → i ≡ j
  at_once i j [] x d h g = absurd h
  at_once zero zero (y ∷ xs) x d h g = refl
  at_once zero (suc j) (y ∷ xs) x d h g = absurd (d.0 (rw h (at_among j xs x g)))
  at_once (suc i) zero (y ∷ xs) x d h g = absurd (d.0 (rw g (at_among i xs x h)))
  at_once (suc i) (suc j) (y ∷ xs) x d h g = ap suc (at_once i j xs x d.1 h g)

-- a look-up gives a place j, where A j, or none, where B is not so
abbrev pub Looked : Option ℕ → (ℕ → Type 0) → Type 0 → Type 0
Looked o A B = ((j : ℕ) × (o ≡ Some j) × A j) ⊎ ((o ≡ None) × (B → ⊥))

-- a look-up with one more in front, at place k
pub looked_more : {A C : ℕ → Type 0} {B P : Type 0} (b : Bool) (k : ℕ) (o : Option ℕ) → Decides b P → (P → C k) → ((j : ℕ) → A j → C j) → Looked o A B → Looked (cond b (Some k) o) C (P ⊎ B)
looked_more true k o d here on looked = inl (k, refl, here (d.0 refl))
looked_more false k o d here on looked = ⊎_elim (λ f. inl (f.0, f.1, on f.0 f.2)) (λ f. inr (f.0, ⊎_elim (λ p. false≢true (d.1 p)) f.1)) looked

module _ {A : ℕ → Type 0} {B : Type 0} (o : Option ℕ) (looked : Looked o A B) (x : List ℕ) where
  -- a name that must be new is accepted only where it is
  pub anew_ok : (y : List ℕ) → cond (is_name x) (unknown x o) (Err Form) ≡ Ok y → (is_name x ≡ true) × (B → ⊥) × (x ≡ y)
  anew_ok y e =
      let p = cond_ok (is_name x) (unknown x o) Form e in
      ⊎_elim (λ f. err_ok (rw f.1 at p.1)) (λ f. (p.0, f.1, ok_same (rw f.0 at p.1))) looked

  -- and wherever it is
  pub anew_on : ((j : ℕ) → A j → B) → is_name x ≡ true → (B → ⊥) → cond (is_name x) (unknown x o) (Err Form) ≡ Ok x
  anew_on known form new = ⊎_elim (λ f. absurd (new (known f.0 f.2))) (λ f. rw (form, f.0) refl) looked

-- a name stands at its position, counted from k, or it is not among the names
found : (k : ℕ) (x : List ℕ) (names : List (List ℕ)) → Looked (position k x names) (λ j. (i : ℕ) × (j ≡ i + k) × At i names x) (Among x names)
found k x [] = inr (refl, λ a. a)
found k x (y ∷ names) = looked_more (bytes_eq y x) k (position (k + 1) x names) (bytes_eq-Decides y x) (λ e. (0, omega arith, e)) (λ j h. (suc h.0, omega arith, h.2)) (found (k + 1) x names)

-- the same, counted from 0
pub known_or_new : (x : List ℕ) (names : List (List ℕ)) → Looked (position 0 x names) (λ j. At j names x) (Among x names)
known_or_new x names = ⊎_elim (λ f. let z : f.2.0 ≡ f.0 = omega arith in inl (f.0, f.1, rw z at f.2.2)) inr (found 0 x names)

module _ (names : List (List ℕ)) (x : List ℕ) where
  -- a name that is declared is a name, and new
  pub declared_ok : (y : List ℕ) → declared_anew names x ≡ Ok y → (is_name x ≡ true) × (Among x names → ⊥) × (x ≡ y)
  declared_ok = anew_ok (position 0 x names) (known_or_new x names) x

  -- a new name may be declared
  pub declared_on : is_name x ≡ true → (Among x names → ⊥) → declared_anew names x ≡ Ok x
  declared_on = anew_on (position 0 x names) (known_or_new x names) x (λ j. at_among j names x)

-- what is added one by one to what is seen: each is anew
abbrev pub Onward : {R : Type 0} → (List R → R → Type 0) → List R → List R → Type 0
Onward Fresh seen [] = Unit {0}
Onward Fresh seen (r ∷ rs) = Fresh seen r × Onward Fresh (seen ++ r ∷ []) rs

-- the key of r is not that of another
abbrev pub Anew : {R K : Type 0} → (R → K) → List R → R → Type 0
Anew key seen r = Among (key r) (map key seen) → ⊥

module _ {R K : Type 0} (key : R → K) where
  onward_law : (seen rs : List R) → Distinct (map key seen) → Both (Onward (Anew key) seen rs) (Distinct (map key seen ++ map key rs))
  onward_law seen [] d = (λ o. rw append-nil d, λ h. tt)
  onward_law seen (r ∷ rs) d =
      let grown : map key (seen ++ r ∷ []) ++ map key rs ≡ map key seen ++ key r ∷ map key rs = rw (map_push key seen r, append_assoc (map key seen) (key r ∷ []) (map key rs)) refl in
      let on = λ (f : Anew key seen r). onward_law (seen ++ r ∷ []) rs (rw (map_push key seen r) (distinct_push (key r) (map key seen) d f)) in
      let back = λ (h : Distinct (map key seen ++ key r ∷ map key rs)). distinct_front (key r) (map key seen) (map key rs) h in
      (λ o. rw grown at ((on o.0).0 o.1), λ h. (back h, (on (back h)).1 (rw grown h)))

  -- added one by one, each anew, and all distinct, are the same
  pub distinct_law : (rs : List R) → Both (Onward (Anew key) [] rs) (Distinct (map key rs))
  distinct_law rs = onward_law [] rs tt
