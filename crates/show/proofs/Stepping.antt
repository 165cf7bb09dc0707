-- Reading section by section: the lines of values, and the names line behind them. Assumes nothing.
use Rattle.std.proofs.Common.{◌≡◌, ℕ, ◌+◌, Bool, true, false, cond, eqb, List, [], ◌∷◌, ◌++◌, length, Some, Ok, Err, Option, Result, sym, refl, ap, ◌∙◌, subst, ⊎_elim, arith}
use Rattle.std.specs.Str.{bytes_eq}
use Rattle.std.proofs.lemmas.Slice.Eq.{bytes_eq-Decides}
use Rattle.std.proofs.lemmas.Bool.{cases_Bool, cond-true, cond-false}
use Rattle.text.specs.declared.flaw.Flaw.TheVariants.{Form, Count}
use Rattle.text.specs.Pieces.{pieces}
use Rattle.lines.specs.declared.line_fault.LineFault.{LineFault}
use Rattle.lines.specs.declared.line_fault.LineFault.TheVariants.{Field}
use Rattle.edges.specs.Edges.{edge_line}
use Rattle.lines.specs.Columns.{with}
use Rattle.network.specs.Lines.{name_line, counter_line, place_line}
use Rattle.network.specs.Networks.{Network, with_clocks, with_counters, with_channels}
use Rattle.show.specs.declared.section.Section.{Section}
use Rattle.show.specs.declared.section.Section.TheVariants.{Opening, Time, Timed, Clocks, Counters, Channels, Places, Edges}
use Rattle.show.specs.Reading.{sections_on}
use Rattle.show.specs.Sections.{due, next, value_line, line_of}
use Rattle.show.proofs.Folding.{step, folded}
use Rattle.show.proofs.Taking.{err_ok, with_ok, lined_ok, valued}

-- at least one piece
abbrev pub Full : List (List ℕ) → Type 0
Full [] = ⊥
Full (p ∷ ps) = Unit {0}

-- with lines in front there is one as well
pub full : (ls ps : List (List ℕ)) → Full ps → Full (ls ++ ps)
full [] ps more = more
full (l ∷ ls) ps more = tt

-- a section that a line of values does not end
abbrev pub Steady : Section → Type 0
Steady Opening = Unit {0}
Steady Time = ⊥
Steady Timed = Unit {0}
Steady Clocks = Unit {0}
Steady Counters = Unit {0}
Steady Channels = Unit {0}
Steady Places = Unit {0}
Steady Edges = Unit {0}

-- the network, in the same section
abbrev staying : Section → Result Network LineFault → Result (Network × Option Section) LineFault
staying s (Ok m) = Ok (m, Some s)
staying s (Err fault) = Err fault

-- what a line of values gives, taken apart and put together again
kept : {X : Type 0} (r : Result X LineFault) (put : X → Network) (s : Section) → with {Y = Network × Option Section} r (λ x. Ok (put x, Some s)) ≡ staying s (valued put (Some s) r)
kept (Ok x) put s = refl
kept (Err fault) put s = refl

refused : (b : Bool) (s : Section) (f g : LineFault) → cond {A = Result (Network × Option Section) LineFault} b (Err f) (Err g) ≡ staying s (with (cond {A = Result (Network × Option Section) LineFault} b (Err f) (Err g)) (λ y. Ok y.0))
refused true s f g = refl
refused false s f g = refl

staying_ok : (s : Section) (x : Result Network LineFault) (m : Network) (t : Option Section) → staying s x ≡ Ok (m, t) → (x ≡ Ok m) × (t ≡ Some s)
staying_ok s (Ok n) m t e = let same : ◌≡◌ {A = Network × Option Section} (n, Some s) (m, t) = cc in (ap (λ y. Ok y.0) same, sym (ap (λ y. y.1) same))
staying_ok s (Err fault) m t e = err_ok e

-- a line of values leaves a steady section open
stays : (s : Section) → Steady s → (k : ℕ) (n : Network) (l : List ℕ) → value_line n s k (pieces 32 l) ≡ staying s (step s k n l)
stays Opening steady k n l = refl
stays Time steady k n l = absurd steady
stays Timed steady k n l = refused (eqb (length (pieces 32 l)) 1) Timed (Field 1 Count) (Field 1 Form)
stays Clocks steady k n l = kept (name_line 7 n.clocks (pieces 32 l)) (with_clocks n) Clocks
stays Counters steady k n l = kept (counter_line n.counters (pieces 32 l)) (with_counters n) Counters
stays Channels steady k n l = kept (name_line 8 n.channels (pieces 32 l)) (with_channels n) Channels
stays Places steady k n l = kept (place_line n k (pieces 32 l)) (λ m. m) Places
stays Edges steady k n l = kept (edge_line n k (pieces 32 l)) (λ m. m) Edges

-- the names line that is due is no line of values
due_no_values : (s : Section) → Steady s → (k : ℕ) (n m : Network) → step s k n (due s) ≡ Ok m → ⊥
due_no_values Opening steady k n m e = err_ok e
due_no_values Time steady k n m e = steady
due_no_values Timed steady k n m e = err_ok e
due_no_values Clocks steady k n m e = err_ok e
due_no_values Counters steady k n m e = err_ok e
due_no_values Channels steady k n m e = err_ok e
due_no_values Places steady k n m e = err_ok e
due_no_values Edges steady k n m e = err_ok e

-- a line that is read, and what is read on
pub line_on : (n m : Network) (s t : Section) (k : ℕ) (l : List ℕ) → line_of n s k l ≡ Ok (m, Some t) → (ps : List (List ℕ)) → Full ps → sections_on n s k (l ∷ ps) ≡ sections_on m t (k + 1) ps
line_on n m s t k l e [] more = absurd more
line_on n m s t k l e (p ∷ ps) more = rw e refl

-- the names line that is due
due_line : (s : Section) (k : ℕ) (n : Network) (t : Option Section) → next s ≡ Ok t → line_of n s k (due s) ≡ Ok (n, t)
due_line s k n t e = cond-true (bytes_eq (due s) (due s)) _ _ ((bytes_eq-Decides (due s) (due s)).1 refl) ∙ rw e refl

-- the names line opens the next section
pub opened : (s t : Section) → next s ≡ Ok (Some t) → (j k : ℕ) → k ≡ j + 1 → (n : Network) (ps : List (List ℕ)) → Full ps → sections_on n s j (due s ∷ ps) ≡ sections_on n t k ps
opened s t e j k here n ps more = rw here (line_on n n s t j (due s) (due_line s j n (Some t) e) ps more)

-- and the last one the run
pub ran : (j : ℕ) (n : Network) (ps : List (List ℕ)) → Full ps → sections_on n Edges j (due Edges ∷ ps) ≡ Ok (n, j, ps)
ran j n [] more = absurd more
ran j n (p ∷ ps) more = refl

-- a piece that no LF ends is no line of a section
pub last_piece : (n : Network) (s : Section) (k : ℕ) (l : List ℕ) (r : Network × ℕ × List (List ℕ)) → sections_on n s k (l ∷ []) ≡ Ok r → ⊥
last_piece n s k [] r e = err_ok e
last_piece n s k (b ∷ bs) r e = err_ok e

-- the lines of values of a section, the network with them, and what stands behind the names line that ends it
pub record Stretch (s : Section) (k : ℕ) (n : Network) (ps : List (List ℕ)) (r : Network × ℕ × List (List ℕ)) : Type 0 where
  pub lines : List (List ℕ)
  pub found : Network
  pub others : List (List ℕ)
  pub more : Full others
  pub split : ps ≡ lines ++ due s ∷ others
  pub are : folded s k n lines ≡ Ok found
  pub on : (j : ℕ) → j ≡ k + length lines → sections_on found s j (due s ∷ others) ≡ Ok r

module _ (s : Section) (steady : Steady s) where
  -- a line that is not the names line due is a line of values
  value_line_lem : (k : ℕ) (n : Network) (l : List ℕ) → bytes_eq l (due s) ≡ false → line_of n s k l ≡ staying s (step s k n l)
  value_line_lem k n l other = cond-false (bytes_eq l (due s)) _ _ other ∙ stays s steady k n l

  -- a line of values that is read
  step_line : (k : ℕ) (n m : Network) (l : List ℕ) → step s k n l ≡ Ok m → line_of n s k l ≡ Ok (m, Some s)
  step_line k n m l e =
      let named = λ (h : bytes_eq l (due s) ≡ true). absurd (due_no_values s steady k n m (subst (λ x. step s k n x ≡ Ok m) ((bytes_eq-Decides l (due s)).0 h) e)) in
      let valued = λ (h : bytes_eq l (due s) ≡ false). value_line_lem k n l h ∙ ap (staying s) e in
      ⊎_elim named valued (cases_Bool (bytes_eq l (due s)))

  -- lines of values are read one by one
  pub section_on : (ls : List (List ℕ)) (k j : ℕ) → j ≡ k + length ls → (n m : Network) → folded s k n ls ≡ Ok m → (ps : List (List ℕ)) → Full ps → sections_on n s k (ls ++ ps) ≡ sections_on m s j ps
  section_on [] k j here n m e ps more =
      let same : n ≡ m = cc in
      let line : j ≡ k = omega arith in
      rw (same, line) refl
  section_on (l ∷ ls) k j here n m e ps more =
      let w = with_ok (step s k n l) (λ x. folded s (k + 1) x ls) e in
      line_on n w.0 s s k l (step_line k n w.0 l w.1) (ls ++ ps) (full ls ps more) ∙ section_on ls (k + 1) j (omega arith) w.0 m w.2 ps more

  -- one line of values more in front
  longer : (k : ℕ) (n m : Network) (l : List ℕ) (ps : List (List ℕ)) (r : Network × ℕ × List (List ℕ)) → step s k n l ≡ Ok m → Stretch s (k + 1) m ps r → Stretch s k n (l ∷ ps) r
  longer k n m l ps r e h = record {
    lines = l ∷ h.lines;
    found = h.found;
    others = h.others;
    more = h.more;
    split = ap (λ x. l ∷ x) h.split;
    are = rw e h.are;
    on = λ j here. h.on j (omega arith);
  }

  -- where a section is read, it is lines of values and the names line that is due
  pub section_back : (ps : List (List ℕ)) (k : ℕ) (n : Network) (r : Network × ℕ × List (List ℕ)) → sections_on n s k ps ≡ Ok r → Stretch s k n ps r
  section_back [] k n r e = err_ok e
  section_back (l ∷ []) k n r e = absurd (last_piece n s k l r e)
  section_back (l ∷ p ∷ ps) k n r e =
      let named : bytes_eq l (due s) ≡ true → Stretch s k n (l ∷ p ∷ ps) r = λ h.
      let same = (bytes_eq-Decides l (due s)).0 h in
      record { lines = []; found = n; others = p ∷ ps; more = tt; split = ap (λ x. x ∷ p ∷ ps) same; are = refl; on = λ j here. (let line : k ≡ j = omega arith in subst (λ x. sections_on n s x (due s ∷ p ∷ ps) ≡ Ok r) line (subst (λ x. sections_on n s k (x ∷ p ∷ ps) ≡ Ok r) same e)) } in
      let valued = λ (h : bytes_eq l (due s) ≡ false).
      let w = lined_ok k (line_of n s k l) _ e in
      let stay = staying_ok s (step s k n l) w.0.0 w.0.1 (sym (value_line_lem k n l h) ∙ w.1) in
      longer k n w.0.0 l (p ∷ ps) r stay.0 (section_back (p ∷ ps) (k + 1) w.0.0 r (sym (line_on n w.0.0 s s k l (step_line k n w.0.0 l stay.0) (p ∷ ps) tt) ∙ e)) in
      ⊎_elim named valued (cases_Bool (bytes_eq l (due s)))

  -- a section that is read to its end, and what is read on
  pub passed : (t : Section) → next s ≡ Ok (Some t) → (ls : List (List ℕ)) (k j : ℕ) → j ≡ k + length ls + 1 → (n m : Network) → folded s k n ls ≡ Ok m → (ps : List (List ℕ)) → Full ps → sections_on n s k (ls ++ due s ∷ ps) ≡ sections_on m t j ps
  passed t to ls k j here n m e ps more = section_on ls k (k + length ls) refl n m e (due s ∷ ps) tt ∙ opened s t to (k + length ls) j here m ps more
