-- The line of the section `time`. Assumes nothing.
use Rattle.std.proofs.Common.{◌≡◌, ℕ, ◌+◌, Bool, true, false, cond, ◌⊎◌, List, [], ◌∷◌, Some, Ok, Err, codes, Option, Result, sym, refl, ◌∙◌, subst, inl, inr, ⊎_elim}
use Rattle.std.specs.Str.{bytes_eq}
use Rattle.std.proofs.lemmas.Slice.Eq.{bytes_eq-Decides}
use Rattle.text.specs.declared.flaw.Flaw.TheVariants.{Form}
use Rattle.text.specs.Pieces.{pieces, first_piece}
use Rattle.network.specs.declared.records.Time.{Time as Kind}
use Rattle.network.specs.declared.records.Time.TheVariants.{Fine, Whole}
use Rattle.lines.specs.Columns.{at}
use Rattle.network.specs.Lines.{time_word, time_line}
use Rattle.network.specs.Networks.{Network, with_time}
use Rattle.show.specs.declared.section.Section.{Section}
use Rattle.show.specs.declared.section.Section.TheVariants.{Time, Timed}
use Rattle.show.specs.Layout.{TimeLine}
use Rattle.show.specs.Reading.{sections_on}
use Rattle.show.specs.Sections.{line_of}
use Rattle.show.proofs.Naming.{one_piece}
use Rattle.show.proofs.Stepping.{Full, line_on, last_piece}
use Rattle.show.proofs.Taking.{err_ok, with_ok, lined_ok, counted_ok}

-- the words by their tests
worded : (b c : Bool) (x : Kind) → at 1 (cond b (Ok Fine) (cond c (Ok Whole) (Err Form))) Ok ≡ Ok x → ((b ≡ true) × (Fine ≡ x)) ⊎ ((c ≡ true) × (Whole ≡ x))
worded true c x e = inl (refl, cc)
worded false true x e = inr (refl, cc)
worded false false x e = err_ok e

-- a word that is read is `fine` or `whole`
word_back : (w : List ℕ) (x : Kind) → at 1 (time_word w) Ok ≡ Ok x → TimeLine w x
word_back w x e =
    let fine : (bytes_eq w (codes "fine") ≡ true) × (Fine ≡ x) → TimeLine w x = λ h. subst (TimeLine w) h.1 ((bytes_eq-Decides w (codes "fine")).0 h.0) in
    let whole : (bytes_eq w (codes "whole") ≡ true) × (Whole ≡ x) → TimeLine w x = λ h. subst (TimeLine w) h.1 ((bytes_eq-Decides w (codes "whole")).0 h.0) in
    ⊎_elim fine whole (worded (bytes_eq w (codes "fine")) (bytes_eq w (codes "whole")) x e)

-- a time line is read
pub time_good : (n : Network) (k : ℕ) (l : List ℕ) (x : Kind) → TimeLine l x → line_of n Time k l ≡ Ok (with_time n x, Some Timed)
time_good n k l Fine e = rw e refl
time_good n k l Whole e = rw e refl

other_ok : {X E : Type 0} (b : Bool) (x : X) (r : Result X E) (f : E) → cond b (Err f) r ≡ Ok x → r ≡ Ok x
other_ok true x r f e = err_ok e
other_ok false x r f e = e

-- what is read is a time line
time_back : (n m : Network) (k : ℕ) (l : List ℕ) (t : Option Section) → line_of n Time k l ≡ Ok (m, t) → (x : Kind) × TimeLine l x
time_back n m k l t e =
    let w = with_ok (time_line (pieces 32 l)) (λ x. Ok (with_time n x, Some Timed)) (other_ok (bytes_eq l (codes "clock")) (m, t) _ _ e) in
    let one = counted_ok 1 (pieces 32 l) w.1 in
    (w.0, subst (λ y. TimeLine y w.0) (one_piece 32 l one.0) (word_back (first_piece 32 l) w.0 one.1))

-- where the section is read, it is a time line
pub record Timing (k : ℕ) (n : Network) (ps : List (List ℕ)) (r : Network × ℕ × List (List ℕ)) : Type 0 where
  pub line : List ℕ
  pub kind : Kind
  pub others : List (List ℕ)
  pub more : Full others
  pub split : ps ≡ line ∷ others
  pub is : TimeLine line kind
  pub on : sections_on (with_time n kind) Timed (k + 1) others ≡ Ok r

pub timing : (ps : List (List ℕ)) (k : ℕ) (n : Network) (r : Network × ℕ × List (List ℕ)) → sections_on n Time k ps ≡ Ok r → Timing k n ps r
timing [] k n r e = err_ok e
timing (l ∷ []) k n r e = absurd (last_piece n Time k l r e)
timing (l ∷ p ∷ ps) k n r e =
    let w = lined_ok k (line_of n Time k l) _ e in
    let h = time_back n w.0.0 k l w.0.1 w.1 in
    record { line = l; kind = h.0; others = p ∷ ps; more = tt; split = refl; is = h.1; on = sym (line_on n (with_time n h.0) Time Timed k l (time_good n k l h.0 h.1) (p ∷ ps) tt) ∙ e }
