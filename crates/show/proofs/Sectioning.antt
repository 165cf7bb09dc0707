-- A file is read exactly where it is laid out as the format says. Assumes nothing.
use Rattle.std.proofs.Common.{◌≡◌, ℕ, ◌+◌, ◌<◌, ◌≤◌, List, [], ◌∷◌, ◌++◌, length, Some, Ok, Err, codes, Result, sym, refl, ap, ◌∙◌, subst, inl, inr, ⊎_elim, append_assoc, arith}
use Rattle.std.proofs.lemmas.List.{same_from_push}
use Rattle.std.proofs.lemmas.Bool.{cases_lt}
use Rattle.text.specs.Pieces.{pieces, first_piece, later_pieces}
use Rattle.acts.specs.Acts.{Act}
use Rattle.network.specs.declared.records.Time.{Time as Kind}
use Rattle.network.specs.Networks.{Place, Edge, Network, blank, with_time, with_clocks, with_counters, with_channels}
use Rattle.show.specs.declared.fault.Fault.{Fault}
use Rattle.show.specs.declared.section.Section.{Section}
use Rattle.show.specs.declared.section.Section.TheVariants.{Opening, Time, Timed, Clocks, Counters as Counting, Channels, Places as Placing, Edges as Leading}
use Rattle.show.specs.Faults.{told}
use Rattle.show.specs.Layout.{Lines, TimeLine, Names, Counters, Places, EdgeLine, Edges, LaidOut, Begins, Outcome, ReadingLaw}
use Rattle.show.specs.Reading.{Reading, sections_on, acts_on, acts_behind, read_pieces, reading}
use Rattle.show.specs.Sections.{due, next, value_line}
use Rattle.show.proofs.Declaring.{clocks_law, channels_law, counters_law, edges_law}
use Rattle.show.proofs.Folding.{step, folded, with_places, with_edges}
use Rattle.show.proofs.Holding.{too_long, by_pieces}
use Rattle.show.proofs.Performing.{acts_on_lem, acts_back}
use Rattle.show.proofs.Placing.{places_law}
use Rattle.show.proofs.Refusing.{Good, good_is, Refused, refused_on, performs}
use Rattle.show.proofs.Stepping.{Full, full, Steady, line_on, opened, ran, section_on, section_back, passed}
use Rattle.show.proofs.Taking.{ok_same, err_same, err_ok, with_ok, counted_ok}
use Rattle.show.proofs.Timing.{timing, time_good}

-- where a file is read, its sections and its acts are
acts_performed : (n : Network) (k : ℕ) (ps : List (List ℕ)) (r : Reading) (x : Result (List Act) Fault) → acts_on n (k + 1) 0 ps ≡ x → acts_behind (Ok (n, k, ps)) ≡ Ok r → (acts : List Act) × (acts_on n (k + 1) 0 ps ≡ Ok acts) × (◌≡◌ {A = Reading} (record { network = n; act_line = k; acts = acts }) r)
acts_performed n k ps r (Ok acts) is e = (acts, is, ok_same (sym (performs n k ps (Ok acts) is) ∙ e))
acts_performed n k ps r (Err fault) is e = err_ok (sym (performs n k ps (Err fault) is) ∙ e)

-- the edges of a network do not bear on a line of one
lines_with : (n : Network) (others : List Edge) (k : ℕ) (ls : List (List ℕ)) (edges : List Edge) → Lines (EdgeLine n) k ls edges → Lines (EdgeLine (with_edges n others)) k ls edges
lines_with n others k [] [] h = h
lines_with n others k [] (e ∷ edges) h = h
lines_with n others k (l ∷ ls) [] h = h
lines_with n others k (l ∷ ls) (e ∷ edges) h = (record { count = h.0.count; ends = h.0.ends; labels = h.0.labels }, lines_with n others (k + 1) ls edges h.1)

edges_with : (n : Network) (others : List Edge) (k : ℕ) (ls : List (List ℕ)) (edges : List Edge) → Edges n k ls edges → Edges (with_edges n others) k ls edges
edges_with n others k ls edges h = record { lines = lines_with n others k ls edges h.lines; few = h.few }

-- the lines of a file, section by section, and what stands behind the line of names of the acts
abbrev spread : List ℕ → List (List ℕ) → List (List ℕ) → List (List ℕ) → List (List ℕ) → List (List ℕ) → List (List ℕ) → List (List ℕ)
spread time clocks counters channels places edges rest = codes "time" ∷ time ∷ codes "clock" ∷ (clocks ++ codes "counter low high first" ∷ (counters ++ codes "channel" ∷ (channels ++ codes "part place when" ∷ (places ++ codes "part from to when if call reset do" ∷ (edges ++ codes "act one two" ∷ rest)))))

-- lines behind the last section
regroup : {X : Type 0} (a b c d e : List X) (v w x y z : X) (r s : List X) → (a ++ v ∷ (b ++ w ∷ (c ++ x ∷ (d ++ y ∷ (e ++ z ∷ r))))) ++ s ≡ a ++ v ∷ (b ++ w ∷ (c ++ x ∷ (d ++ y ∷ (e ++ z ∷ (r ++ s)))))
regroup a b c d e v w x y z r s = simp append_assoc

spread_more : (time : List ℕ) (clocks counters channels places edges rest more : List (List ℕ)) → spread time clocks counters channels places edges rest ++ more ≡ spread time clocks counters channels places edges (rest ++ more)
spread_more time clocks counters channels places edges rest more = ap (λ x. codes "time" ∷ time ∷ codes "clock" ∷ x) (regroup clocks counters channels places edges (due Clocks) (due Counting) (due Channels) (due Placing) (due Leading) rest more)

-- a section that is read, and what its lines declare
record Declared {X : Type 0} (P : List (List ℕ) → X → Type 0) (f : X → Network) (s : Section) (k : ℕ) (ps : List (List ℕ)) (r : Network × ℕ × List (List ℕ)) : Type 0 where
  lines : List (List ℕ)
  value : X
  others : List (List ℕ)
  more : Full others
  split : ps ≡ lines ++ due s ∷ others
  holds : P lines value
  on : (j : ℕ) → j ≡ k + length lines → sections_on (f value) s j (due s ∷ others) ≡ Ok r

module _ {X : Type 0} {P : List (List ℕ) → X → Type 0} {f : X → Network} {s : Section} {k : ℕ} {ps : List (List ℕ)} {r : Network × ℕ × List (List ℕ)} where
  -- the section is read by its law
  declared : Steady s → (n : Network) → ((ls : List (List ℕ)) (m : Network) → folded s k n ls ≡ Ok m → (x : X) × P ls x × (m ≡ f x)) → sections_on n s k ps ≡ Ok r → Declared P f s k ps r
  declared steady n law e =
      let h = section_back s steady ps k n r e in
      let w = law h.lines h.found h.are in
      record { lines = h.lines; value = w.0; others = h.others; more = h.more; split = h.split; holds = w.1; on = λ j here. subst (λ m. sections_on m s j (due s ∷ h.others) ≡ Ok r) w.2 (h.on j here) }

  module _ (h : Declared P f s k ps r) where
    -- the next section is read on
    onward : (t : Section) → next s ≡ Ok (Some t) → (j : ℕ) → j ≡ k + length h.lines + 1 → sections_on (f h.value) t j h.others ≡ Ok r
    onward t to j here = sym (opened s t to (k + length h.lines) j here (f h.value) h.others h.more) ∙ h.on (k + length h.lines) refl

    -- its lines, with what stands behind it
    behind : {others : List (List ℕ)} → h.others ≡ others → ps ≡ h.lines ++ due s ∷ others
    behind e = h.split ∙ ap (λ x. h.lines ++ due s ∷ x) e

-- a section that has no lines of values
abbrev Bare : Section → Type 0
Bare s = (k : ℕ) (n m : Network) (l : List ℕ) → step s k n l ≡ Ok m → ⊥

-- it is folded only with no lines
bare_folded : (s : Section) → Bare s → (k : ℕ) (n : Network) (ls : List (List ℕ)) (m : Network) → folded s k n ls ≡ Ok m → (x : Unit {0}) × (ls ≡ []) × (m ≡ n)
bare_folded s bare k n [] m e = (tt, refl, cc)
bare_folded s bare k n (l ∷ ls) m e = let w = with_ok (step s k n l) (λ x. folded s (k + 1) x ls) e in absurd (bare k n w.0 l w.1)

opening_bare : Bare Opening
opening_bare k n m l e = err_ok e

timed_bare : Bare Timed
timed_bare k n m l e = let w = with_ok (value_line n Timed k (pieces 32 l)) (λ y. Ok y.0) e in err_ok (counted_ok 1 (pieces 32 l) w.1).1

-- where a section of no lines is read, it is its names line
record Named (s t : Section) (k : ℕ) (n : Network) (ps : List (List ℕ)) (r : Network × ℕ × List (List ℕ)) : Type 0 where
  others : List (List ℕ)
  split : ps ≡ due s ∷ others
  on : sections_on n t (k + 1) others ≡ Ok r

-- a section of no lines, read
named : (s t : Section) → Steady s → next s ≡ Ok (Some t) → Bare s → (k : ℕ) (n : Network) (ps : List (List ℕ)) (r : Network × ℕ × List (List ℕ)) → sections_on n s k ps ≡ Ok r → Named s t k n ps r
named s t steady to bare k n ps r e =
    let h : Declared {X = Unit {0}} (λ ls x. ls ≡ []) (λ x. n) s k ps r = declared steady n (bare_folded s bare k n) e in
    let none : length h.lines ≡ 0 = ap length h.holds in
    record { others = h.others; split = h.split ∙ ap (λ ls. ls ++ due s ∷ h.others) h.holds; on = onward h t to (k + 1) (omega arith) }

-- the line behind each names line
after_clocks : (a : ℕ) → 5 + a ≡ 4 + a + 1
after_clocks a = omega arith

after_counters : (a b : ℕ) → 6 + a + b ≡ 5 + a + b + 1
after_counters a b = omega arith

after_channels : (a b c : ℕ) → 7 + a + b + c ≡ 6 + a + b + c + 1
after_channels a b c = omega arith

after_places : (a b c d : ℕ) → 8 + a + b + c + d ≡ 7 + a + b + c + d + 1
after_places a b c d = omega arith

-- with its acts, a file is laid out
abbrev Laid : List (List ℕ) → Network × ℕ × List (List ℕ) → Type 0
Laid ps (n, k, rest) = (acts : List Act) → acts_on n (k + 1) 0 rest ≡ Ok acts → (ls : List (List ℕ)) × (ps ≡ ls ++ [] ∷ []) × LaidOut ls (record { network = n; act_line = k; acts = acts })

-- the lines before the clocks
record Start (ps : List (List ℕ)) (r : Network × ℕ × List (List ℕ)) : Type 0 where
  time : List ℕ
  kind : Kind
  others : List (List ℕ)
  split : ps ≡ due Opening ∷ time ∷ due Timed ∷ others
  is : TimeLine time kind
  on : sections_on (with_time blank kind) Clocks 4 others ≡ Ok r

start : (ps : List (List ℕ)) (r : Network × ℕ × List (List ℕ)) → sections_on blank Opening 1 ps ≡ Ok r → Start ps r
start ps r e =
    let o = named Opening Time tt refl opening_bare 1 blank ps r e in
    let t = timing o.others 2 blank r o.on in
    let q = named Timed Clocks tt refl timed_bare 3 (with_time blank t.kind) t.others r t.on in
    record { time = t.line; kind = t.kind; others = q.others; split = o.split ∙ ap (λ x. due Opening ∷ x) (t.split ∙ ap (λ x. t.line ∷ x) q.split); is = t.is; on = q.on }

-- the sections of lines of values, from line k and a network on
module _ (k : ℕ) (n : Network) (ps : List (List ℕ)) (r : Network × ℕ × List (List ℕ)) where
  abbrev ClocksAt : Type 0
  ClocksAt = Declared (Names 7) (with_clocks n) Clocks k ps r

  abbrev CountersAt : Type 0
  CountersAt = Declared (Counters k) (with_counters n) Counting k ps r

  abbrev ChannelsAt : Type 0
  ChannelsAt = Declared (Names 8) (with_channels n) Channels k ps r

  abbrev PlacesAt : Type 0
  PlacesAt = Declared {X = List (List ℕ) × List Place} (λ ls x. Places n.clocks k ls x.0 x.1) (λ x. with_places n x.0 x.1) Placing k ps r

  abbrev EdgesAt : Type 0
  EdgesAt = Declared (Edges n k) (with_edges n) Leading k ps r

nil_cons : (x : List ℕ) (xs : List (List ℕ)) → [] ≡ x ∷ xs → ⊥
nil_cons x xs e = cc

-- the same list has the same first element and the same others
tails : {X : Type 0} (x y : X) (xs ys : List X) → x ∷ xs ≡ y ∷ ys → (x ≡ y) × (xs ≡ ys)
tails x y xs ys e = (cc, cc)

-- a list cut in two ways, once one element later
cut : {X : Type 0} (xs : List X) (x : X) (rs ys : List X) (y : X) (bs : List X) → xs ++ x ∷ rs ≡ ys ++ y ∷ bs → length ys ≡ length xs + 1 → (ys ≡ xs ++ x ∷ []) × (rs ≡ y ∷ bs)
cut [] x rs [] y bs e size = absurd (omega arith)
cut [] x rs (v ∷ []) y bs e size = let w = tails x v rs (y ∷ bs) e in (ap (λ z. z ∷ []) (sym w.0), w.1)
cut [] x rs (v ∷ u ∷ ys) y bs e size = absurd (omega arith)
cut (v ∷ xs) x rs [] y bs e size = absurd (omega arith)
cut (v ∷ xs) x rs (u ∷ ys) y bs e size =
    let t = tails v u (xs ++ x ∷ rs) (ys ++ y ∷ bs) e in
    let w = cut xs x rs ys y bs t.1 (omega arith) in
    (ap (λ z. z ∷ ys) (sym t.0) ∙ ap (λ z. v ∷ z) w.0, w.1)

-- what is refused on a line is refused with any lines behind it
at_more : {Y : Type 0} (read : List (List ℕ) → Result Y Fault) (front : List (List ℕ)) (first : List ℕ) (f : Fault) → ((q : List ℕ) (other : List (List ℕ)) → read (front ++ first ∷ q ∷ other) ≡ Err f) → (more : List (List ℕ)) → read (((front ++ first ∷ []) ++ more) ++ [] ∷ []) ≡ Err f
at_more read front first f bad [] = ap read (simp append_assoc) ∙ bad [] []
at_more read front first f bad (l ∷ ls) = ap read (simp append_assoc) ∙ bad l (ls ++ [] ∷ [])

-- the lines of a file that is laid out are read, section by section
sections_on_lem : (ls : List (List ℕ)) (r : Reading) (h : LaidOut ls r) (rest : List (List ℕ)) → Full rest → sections_on blank Opening 1 (spread h.time h.clocks h.counters h.channels h.places h.edges rest) ≡ Ok (r.network, r.act_line, rest)
sections_on_lem ls r h rest more =
    let n = r.network in
    let timed = with_time blank n.time in
    let clocked = with_clocks timed n.clocks in
    let counted = with_counters clocked n.counters in
    let called = with_channels counted n.channels in
    let placed = with_places called n.parts n.places in
    let a = length h.clocks in
    let b = length h.counters in
    let c = length h.channels in
    let d = length h.places in
    let at-edges = h.edges ++ due Leading ∷ rest in
    let at_places = h.places ++ due Placing ∷ at-edges in
    let at-channels = h.channels ++ due Channels ∷ at_places in
    let at-counters = h.counters ++ due Counting ∷ at-channels in
    let at-clocks = h.clocks ++ due Clocks ∷ at-counters in
    line_on blank timed Time Timed 2 h.time (time_good blank 2 h.time n.time h.time_is) (due Timed ∷ at-clocks) tt
    ∙ opened Timed Clocks refl 3 4 refl timed at-clocks (full h.clocks (due Clocks ∷ at-counters) tt)
    ∙ passed Clocks tt Counting refl h.clocks 4 (5 + a) (after_clocks a) timed clocked ((clocks_law 4 timed clocked h.clocks refl).1 (n.clocks, h.clocks_are, refl)) at-counters (full h.counters (due Counting ∷ at-channels) tt)
    ∙ passed Counting tt Channels refl h.counters (5 + a) (6 + a + b) (after_counters a b) clocked counted ((counters_law (5 + a) clocked counted h.counters refl).1 (n.counters, h.counters_are, refl)) at-channels (full h.channels (due Channels ∷ at_places) tt)
    ∙ passed Channels tt Placing refl h.channels (6 + a + b) (7 + a + b + c) (after_channels a b c) counted called ((channels_law (6 + a + b) counted called h.channels refl).1 (n.channels, h.channels_are, refl)) at_places (full h.places (due Placing ∷ at-edges) tt)
    ∙ passed Placing tt Leading refl h.places (7 + a + b + c) (8 + a + b + c + d) (after_places a b c d) called placed ((places_law (7 + a + b + c) called placed h.places refl refl).1 (n.parts, n.places, h.places_are, refl)) at-edges (full h.edges (due Leading ∷ rest) tt)
    ∙ section_on Leading tt h.edges (8 + a + b + c + d) r.act_line h.act_line placed n ((edges_law (8 + a + b + c + d) placed n h.edges refl).1 (n.edges, edges_with n [] (8 + a + b + c + d) h.edges n.edges h.edges_are, refl)) (due Leading ∷ rest) tt
    ∙ ran r.act_line n rest more

-- a file that is laid out is read
reading_on : (ls : List (List ℕ)) (r : Reading) → LaidOut ls r → read_pieces (ls ++ [] ∷ []) ≡ Ok r
reading_on ls r h =
    let pieced = ap (λ x. x ++ [] ∷ []) h.sections ∙ spread_more h.time h.clocks h.counters h.channels h.places h.edges h.acts ([] ∷ []) in
    let acts = acts_on_lem r.network (r.act_line + 1) h.acts r.acts 0 _ (omega (arith, h.act_line)) h.acts_are.lines (omega (arith, h.acts_are.few)) in
    ap read_pieces pieced ∙ ap acts_behind (sections_on_lem ls r h (h.acts ++ [] ∷ []) (full h.acts ([] ∷ []) tt)) ∙ performs r.network r.act_line (h.acts ++ [] ∷ []) (Ok r.acts) acts

module _ (ps : List (List ℕ)) (r : Network × ℕ × List (List ℕ)) (s : Start ps r) where
  abbrev timed : Network
  timed = with_time blank s.kind

  module _ (clocks : ClocksAt 4 timed s.others r) where
    abbrev a : ℕ
    a = length clocks.lines

    abbrev clocked : Network
    clocked = with_clocks timed clocks.value

    module _ (counters : CountersAt (5 + a) clocked clocks.others r) where
      abbrev b : ℕ
      b = length counters.lines

      abbrev counted : Network
      counted = with_counters clocked counters.value

      module _ (channels : ChannelsAt (6 + a + b) counted counters.others r) where
        abbrev c : ℕ
        c = length channels.lines

        abbrev called : Network
        called = with_channels counted channels.value

        module _ (places : PlacesAt (7 + a + b + c) called channels.others r) where
          abbrev d : ℕ
          d = length places.lines

          abbrev placed : Network
          placed = with_places called places.value.0 places.value.1

          -- all sections together
          assembled : (edges : EdgesAt (8 + a + b + c + d) placed places.others r) → Laid ps r
          assembled edges =
              let n = with_edges placed edges.value in
              let j = 8 + a + b + c + d + length edges.lines in
              subst (Laid ps) (ok_same (sym (ran j n edges.others edges.more) ∙ edges.on j refl)) (λ acts e.
              let run = acts_back n (j + 1) edges.others edges.more 0 (9 + a + b + c + d + length edges.lines) acts (omega arith) (omega arith) e in (
                spread s.time clocks.lines counters.lines channels.lines places.lines edges.lines run.lines,
                s.split ∙ ap (λ x. due Opening ∷ s.time ∷ due Timed ∷ x) (behind clocks (behind counters (behind channels (behind places (behind edges run.split))))) ∙ sym (spread_more s.time clocks.lines counters.lines channels.lines places.lines edges.lines run.lines ([] ∷ [])),
                record {
                  time = s.time;
                  clocks = clocks.lines;
                  counters = counters.lines;
                  channels = channels.lines;
                  places = places.lines;
                  edges = edges.lines;
                  acts = run.lines;
                  sections = refl;
                  time_is = s.is;
                  clocks_are = clocks.holds;
                  counters_are = counters.holds;
                  channels_are = channels.holds;
                  places_are = places.holds;
                  edges_are = edges_with placed edges.value (8 + a + b + c + d) edges.lines edges.value edges.holds;
                  act_line = refl;
                  acts_are = record { lines = run.are; few = omega (arith, run.few) };
                },
              ))

          from_edges : Laid ps r
          from_edges = assembled (declared tt placed (λ ls m. (edges_law (8 + a + b + c + d) placed m ls refl).0) (onward places Leading refl (8 + a + b + c + d) (after_places a b c d)))

        from_places : Laid ps r
        from_places = from_edges (declared tt called (λ ls m e. (let w = (places_law (7 + a + b + c) called m ls refl refl).0 e in ((w.0, w.1), w.2, w.3))) (onward channels Placing refl (7 + a + b + c) (after_channels a b c)))

      from_channels : Laid ps r
      from_channels = from_places (declared tt counted (λ ls m. (channels_law (6 + a + b) counted m ls refl).0) (onward counters Channels refl (6 + a + b) (after_counters a b)))

    from_counters : Laid ps r
    from_counters = from_channels (declared tt clocked (λ ls m. (counters_law (5 + a) clocked m ls refl).0) (onward clocks Counting refl (5 + a) (after_clocks a)))

  from_clocks : Laid ps r
  from_clocks = from_counters (declared tt timed (λ ls m. (clocks_law 4 timed m ls refl).0) s.on)

-- a file that is read is laid out
behind_back : (ps : List (List ℕ)) (r : Reading) (x : Result (Network × ℕ × List (List ℕ)) Fault) → sections_on blank Opening 1 ps ≡ x → acts_behind x ≡ Ok r → (ls : List (List ℕ)) × (ps ≡ ls ++ [] ∷ []) × LaidOut ls r
behind_back ps r (Ok (n, k, rest)) is e =
    let w = acts_performed n k rest r (acts_on n (k + 1) 0 rest) refl e in
    let h = from_clocks ps (n, k, rest) (start ps (n, k, rest) is) w.0 w.1 in
    (h.0, h.1, subst (LaidOut h.0) w.2 h.2)
behind_back ps r (Err fault) is e = err_ok e

reading_back : (ps : List (List ℕ)) (r : Reading) → read_pieces ps ≡ Ok r → (ls : List (List ℕ)) × (ps ≡ ls ++ [] ∷ []) × LaidOut ls r
reading_back ps r e = behind_back ps r (sections_on blank Opening 1 ps) refl e

-- lines that begin a text which is read
begins : (text : List ℕ) (front : List (List ℕ)) (first : List ℕ) (others more : List (List ℕ)) → pieces 10 text ≡ front ++ first ∷ others → Good (read_pieces ((front ++ more) ++ [] ∷ [])) → Begins (length front) text
begins text front first others more here good =
    let r = good_is (read_pieces ((front ++ more) ++ [] ∷ [])) good in
    let h = reading_back ((front ++ more) ++ [] ∷ []) r.0 r.1 in
    let same = same_from_push (front ++ more) h.0 [] [] h.1 in
    record { front = front; first = first; others = others; here = here; size = refl; more = more; says = r.0; whole = subst (λ ls. LaidOut ls r.0) (sym same.0) h.2 }

-- a text that is refused on a line does not begin with it
begins_not : (text : List ℕ) (f : Fault) (h : Refused read_pieces 1 (pieces 10 text) f) → Begins (length h.front + 1) text → ⊥
begins_not text f h b =
    let w = cut h.front h.first h.others b.front b.first b.others (sym h.here ∙ b.here) b.size in
    let read = reading_on (b.front ++ b.more) b.says b.whole in
    let last = λ (none : h.others ≡ []). nil_cons b.first b.others (sym none ∙ w.1) in
    let wrong = λ (bad : (q : List ℕ) (other : List (List ℕ)) → read_pieces (h.front ++ h.first ∷ q ∷ other) ≡ Err f). err_ok (sym (at_more read_pieces h.front h.first f bad b.more) ∙ subst (λ x. read_pieces ((x ++ b.more) ++ [] ∷ []) ≡ Ok b.says) w.0 read) in
    ⊎_elim last wrong h.bad

-- a refusal names the first line that is not as the format says
refused_text : (text : List ℕ) (f : Fault) → read_pieces (pieces 10 text) ≡ Err f → (k : ℕ) × ((told f).1.line ≡ k + 1) × Begins k text × (Begins (k + 1) text → ⊥)
refused_text text f e =
    let h = refused_on (first_piece 10 text) (later_pieces 10 text) blank Opening 1 f e in
    (length h.front, omega (arith, h.line), begins text h.front h.first h.others h.more h.here h.good, begins_not text f h)

-- what the reading of a text says
outcome_of : (text : List ℕ) (x : Result Reading Fault) → reading text ≡ x → Outcome text x
outcome_of text (Ok r) is =
    let many : 60000 < length text → Outcome text (Ok r) = λ h. err_ok (sym (too_long text h) ∙ is) in
    let few : length text ≤ 60000 → Outcome text (Ok r) = λ h. (let w = reading_back (pieces 10 text) r (sym (by_pieces text h) ∙ is) in (h, w.0, w.1, w.2)) in
    ⊎_elim many few (cases_lt 60000 (length text))
outcome_of text (Err f) is =
    let many : 60000 < length text → Outcome text (Err f) = λ h. inl (h, err_same (sym is ∙ too_long text h)) in
    let few : length text ≤ 60000 → Outcome text (Err f) = λ h. (let w = refused_text text f (sym (by_pieces text h) ∙ is) in inr (h, w.0, w.1, w.2, w.3)) in
    ⊎_elim many few (cases_lt 60000 (length text))

-- the law of reading
pub reading_law : ReadingLaw
reading_law = record {
  outcome = λ text. outcome_of text (reading text) refl;
  accepts = λ text ls r few written laid_out. by_pieces text few ∙ ap read_pieces written ∙ reading_on ls r laid_out;
}
