-- A refusal lies on one line: what stands before it begins a file that is read, and with it nothing is. Assumes nothing.
use Rattle.std.proofs.Common.{◌≡◌, ℕ, ◌+◌, ◌⊎◌, List, [], ◌∷◌, ◌++◌, length, Some, None, Ok, Err, codes, Option, Result, sym, refl, ap, ◌∙◌, subst, inl, inr, ⊎_elim, arith}
use Rattle.text.specs.declared.flaw.Flaw.TheVariants.{Form, Name, Range, Count}
use Rattle.text.specs.Pieces.{pieces}
use Rattle.lines.specs.declared.line_fault.LineFault.{LineFault}
use Rattle.lines.specs.declared.line_fault.LineFault.TheVariants as Line
use Rattle.acts.specs.Acts.{Act, act_line}
use Rattle.network.specs.Networks.{Network}
use Rattle.show.specs.declared.fault.Fault.{Fault}
use Rattle.show.specs.declared.fault.Fault.TheVariants.{Disorder, Field}
use Rattle.show.specs.declared.section.Section.{Section}
use Rattle.show.specs.declared.section.Section.TheVariants.{Opening, Time, Timed, Clocks, Counters, Channels, Places, Edges}
use Rattle.show.specs.Faults.{told, on_line}
use Rattle.show.specs.Reading.{Reading, sections_on, prepended, acts_on, acts_behind, with_acts}
use Rattle.show.specs.Sections.{due, line_of}
use Rattle.show.proofs.Performing.{act_on}
use Rattle.show.proofs.Stepping.{Full, full, line_on}
use Rattle.show.proofs.Taking.{err_ok, err_same}

-- nothing is refused
abbrev pub Good : {Y : Type 0} → Result Y Fault → Type 0
Good (Ok y) = Unit {0}
Good (Err fault) = ⊥

-- what is not refused gives something
pub good_is : {Y : Type 0} (r : Result Y Fault) → Good r → (y : Y) × (r ≡ Ok y)
good_is (Ok y) h = (y, refl)
good_is (Err fault) h = absurd h

-- pieces from line k on are refused for one of them
pub record Refused {Y : Type 0} (read : List (List ℕ) → Result Y Fault) (k : ℕ) (ps : List (List ℕ)) (f : Fault) : Type 0 where
  pub front : List (List ℕ)
  pub first : List ℕ
  pub others : List (List ℕ)
  pub here : ps ≡ front ++ first ∷ others
  pub line : (told f).1.line ≡ k + length front
  pub more : List (List ℕ)
  pub good : Good (read ((front ++ more) ++ [] ∷ []))
  pub bad : (others ≡ []) ⊎ ((q : List ℕ) (other : List (List ℕ)) → read (front ++ first ∷ q ∷ other) ≡ Err f)

-- what keeps both outcomes
record Keeps {Y Z : Type 0} (g : Result Z Fault → Result Y Fault) : Type 0 where
  good : (z : Result Z Fault) → Good z → Good (g z)
  bad : (z : Result Z Fault) (f : Fault) → z ≡ Err f → g z ≡ Err f
  back : (z : Result Z Fault) (f : Fault) → g z ≡ Err f → z ≡ Err f

-- the refusal lies here
here : {Y : Type 0} (read : List (List ℕ) → Result Y Fault) (k : ℕ) (l : List ℕ) (ps : List (List ℕ)) (f : Fault) → (told f).1.line ≡ k → (more : List (List ℕ)) → Good (read (more ++ [] ∷ [])) → (ps ≡ []) ⊎ ((q : List ℕ) (other : List (List ℕ)) → read (l ∷ q ∷ other) ≡ Err f) → Refused read k (l ∷ ps) f
here read k l ps f line more good bad = record { front = []; first = l; others = ps; here = refl; line = omega arith; more = more; good = good; bad = bad }

-- the refusal lies on a later line
later : {Y Z : Type 0} (g : Result Z Fault → Result Y Fault) → Keeps g → (read : List (List ℕ) → Result Y Fault) (rest : List (List ℕ) → Result Z Fault) (k : ℕ) (l : List ℕ) (ps : List (List ℕ)) (f : Fault) → ((qs : List (List ℕ)) → Full qs → read (l ∷ qs) ≡ g (rest qs)) → Full ps → (rest ps ≡ Err f → Refused rest (k + 1) ps f) → read (l ∷ ps) ≡ Err f → Refused read k (l ∷ ps) f
later g keeps read rest k l ps f on more inner e =
    let h = inner (keeps.back (rest ps) f (sym (on ps more) ∙ e)) in
    let bad : (h.others ≡ []) ⊎ ((q : List ℕ) (other : List (List ℕ)) → read (l ∷ (h.front ++ h.first ∷ q ∷ other)) ≡ Err f) =
    ⊎_elim inl (λ b. inr (λ q other. on (h.front ++ h.first ∷ q ∷ other) (full h.front (h.first ∷ q ∷ other) tt) ∙ keeps.bad (rest (h.front ++ h.first ∷ q ∷ other)) f (b q other))) h.bad in
    record {
      front = l ∷ h.front;
      first = h.first;
      others = h.others;
      here = ap (λ x. l ∷ x) h.here;
      line = omega (arith, h.line);
      more = h.more;
      good = subst Good (sym (on ((h.front ++ h.more) ++ [] ∷ []) (full (h.front ++ h.more) ([] ∷ []) tt))) (keeps.good (rest ((h.front ++ h.more) ++ [] ∷ [])) h.good);
      bad = bad;
    }

-- the fault of a line names the line
on_line_lem : (k : ℕ) (fault : LineFault) → (told (on_line k fault)).1.line ≡ k
on_line_lem k Line.Disorder = refl
on_line_lem k (Line.Field i Form) = refl
on_line_lem k (Line.Field i Name) = refl
on_line_lem k (Line.Field i Range) = refl
on_line_lem k (Line.Field i Count) = refl

-- a refusal with the fault of line k
line_of_lem : {Y : Type 0} (k : ℕ) (g f : Fault) → (told g).1.line ≡ k → ◌≡◌ {A = Result Y Fault} (Err g) (Err f) → (told f).1.line ≡ k
line_of_lem k g f line e = subst (λ x. (told x).1.line ≡ k) (err_same e) line

-- what goes on only with what is accepted, and accepts that
keeps_on : {Y Z : Type 0} {g : Result Z Fault → Result Y Fault} → ((z : Z) → Good (g (Ok z))) → ((f : Fault) → g (Err f) ≡ Err f) → Keeps g
keeps_on good bad = record {
  good = elim [ Ok z ↦ λ h. good z | Err f ↦ λ h. absurd h ];
  bad = λ z f e. rw e (bad f);
  back = elim [ Ok z ↦ λ f e. absurd (subst Good e (good z)) | Err fault ↦ λ f e. ap Err (err_same (sym (bad fault) ∙ e)) ];
}

-- the acts behind the sections
pub performs : (n : Network) (k : ℕ) (ps : List (List ℕ)) (r : Result (List Act) Fault) → acts_on n (k + 1) 0 ps ≡ r → acts_behind (Ok (n, k, ps)) ≡ with_acts n k r
performs n k ps (Ok acts) e = rw e refl
performs n k ps (Err fault) e = rw e refl

-- no act is refused but for its line
module _ (n : Network) (first : ℕ) where
  act_refused : (l p : List ℕ) (ps : List (List ℕ)) (count k : ℕ) (f : Fault) → k ≡ first + count → (acts_on n first (count + 1) (p ∷ ps) ≡ Err f → Refused (acts_on n first (count + 1)) (k + 1) (p ∷ ps) f) → (x : Result Act LineFault) → act_line n count (pieces 32 l) ≡ x → acts_on n first count (l ∷ p ∷ ps) ≡ Err f → Refused (acts_on n first count) k (l ∷ p ∷ ps) f
  act_refused l p ps count k f at-line inner (Ok a) is e = later (prepended a) (keeps_on (λ acts. tt) (λ f. refl)) (acts_on n first count) (acts_on n first (count + 1)) k l (p ∷ ps) f (act_on n count l a first is) tt inner e
  act_refused l p ps count k f at-line inner (Err fault) is e =
      let wrong : ◌≡◌ {A = Result (List Act) Fault} (Err (on_line (first + count) fault)) (Err f) = rw is at e in
      here (acts_on n first count) k l (p ∷ ps) f (line_of_lem (first + count) (on_line (first + count) fault) f (on_line_lem (first + count) fault) wrong ∙ sym at-line) [] tt (inr (λ q other. rw is wrong))

  -- a refusal of an act lies on its line
  acts_refused : (l : List ℕ) (ps : List (List ℕ)) (count k : ℕ) (f : Fault) → k ≡ first + count → acts_on n first count (l ∷ ps) ≡ Err f → Refused (acts_on n first count) k (l ∷ ps) f
  acts_refused [] [] count k f at-line e = err_ok (sym e)
  acts_refused (b ∷ bs) [] count k f at-line e = here (acts_on n first count) k (b ∷ bs) [] f (line_of_lem (first + count) (Field (first + count) 1 Form) f refl e ∙ sym at-line) [] tt (inl refl)
  acts_refused l (p ∷ ps) count k f at-line e = act_refused l p ps count k f at-line (λ h. acts_refused p ps (count + 1) (k + 1) f (omega arith) h) (act_line n count (pieces 32 l)) refl e

-- the shortest lines that end a file from a section on
abbrev closing : Section → List (List ℕ)
closing Opening = due Opening ∷ codes "fine" ∷ due Timed ∷ due Clocks ∷ due Counters ∷ due Channels ∷ due Places ∷ due Edges ∷ []
closing Time = codes "fine" ∷ due Timed ∷ due Clocks ∷ due Counters ∷ due Channels ∷ due Places ∷ due Edges ∷ []
closing Timed = due Timed ∷ due Clocks ∷ due Counters ∷ due Channels ∷ due Places ∷ due Edges ∷ []
closing Clocks = due Clocks ∷ due Counters ∷ due Channels ∷ due Places ∷ due Edges ∷ []
closing Counters = due Counters ∷ due Channels ∷ due Places ∷ due Edges ∷ []
closing Channels = due Channels ∷ due Places ∷ due Edges ∷ []
closing Places = due Places ∷ due Edges ∷ []
closing Edges = due Edges ∷ []

-- what is read from line k on, in a section
abbrev read_on : Network → Section → ℕ → List (List ℕ) → Result Reading Fault
read_on n s k ps = acts_behind (sections_on n s k ps)

-- they are read
closes : (n : Network) (s : Section) (k : ℕ) → Good (read_on n s k (closing s ++ [] ∷ []))
closes n Opening k = tt
closes n Time k = tt
closes n Timed k = tt
closes n Clocks k = tt
closes n Counters k = tt
closes n Channels k = tt
closes n Places k = tt
closes n Edges k = tt

-- the line of names of the acts, and what is read on
run_on : (n m : Network) (s : Section) (k : ℕ) (l : List ℕ) → line_of n s k l ≡ Ok (m, None) → (ps : List (List ℕ)) → Full ps → read_on n s k (l ∷ ps) ≡ with_acts m k (acts_on m (k + 1) 0 ps)
run_on n m s k l is [] more = absurd more
run_on n m s k l is (p ∷ ps) more = rw is (performs m k (p ∷ ps) (acts_on m (k + 1) 0 (p ∷ ps)) refl)

-- a section is refused for its line or for what follows
line_refused : (n : Network) (s : Section) (k : ℕ) (l p : List ℕ) (ps : List (List ℕ)) (f : Fault) → ((m : Network) (t : Section) → read_on m t (k + 1) (p ∷ ps) ≡ Err f → Refused (read_on m t (k + 1)) (k + 1) (p ∷ ps) f) → (x : Result (Network × Option Section) LineFault) → line_of n s k l ≡ x → read_on n s k (l ∷ p ∷ ps) ≡ Err f → Refused (read_on n s k) k (l ∷ p ∷ ps) f
line_refused n s k l p ps f inner (Ok (m, Some t)) is e = later (λ r. r) (record { good = λ z h. h; bad = λ z f e. e; back = λ z f e. e }) (read_on n s k) (read_on m t (k + 1)) k l (p ∷ ps) f (λ qs more. ap acts_behind (line_on n m s t k l is qs more)) tt (inner m t) e
line_refused n s k l p ps f inner (Ok (m, None)) is e = later (with_acts m k) (keeps_on (λ acts. tt) (λ f. refl)) (read_on n s k) (acts_on m (k + 1) 0) k l (p ∷ ps) f (run_on n m s k l is) tt (acts_refused m (k + 1) p ps 0 (k + 1) f (omega arith)) e
line_refused n s k l p ps f inner (Err fault) is e =
    let wrong : ◌≡◌ {A = Result Reading Fault} (Err (on_line k fault)) (Err f) = rw is at e in
    here (read_on n s k) k l (p ∷ ps) f (line_of_lem k (on_line k fault) f (on_line_lem k fault) wrong) (closing s) (closes n s k) (inr (λ q other. rw is wrong))

-- a refusal lies on one line
pub refused_on : (l : List ℕ) (ps : List (List ℕ)) (n : Network) (s : Section) (k : ℕ) (f : Fault) → read_on n s k (l ∷ ps) ≡ Err f → Refused (read_on n s k) k (l ∷ ps) f
refused_on [] [] n s k f e = here (read_on n s k) k [] [] f (line_of_lem k (Disorder k) f refl e) (closing s) (closes n s k) (inl refl)
refused_on (b ∷ bs) [] n s k f e = here (read_on n s k) k (b ∷ bs) [] f (line_of_lem k (Field k 1 Form) f refl e) (closing s) (closes n s k) (inl refl)
refused_on l (p ∷ ps) n s k f e = line_refused n s k l p ps f (λ m t. refused_on p ps m t (k + 1) f) (line_of n s k l) refl e
