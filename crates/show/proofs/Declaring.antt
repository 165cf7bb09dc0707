-- What the lines of the clocks, counters, channels and edges declare, taken together. Assumes nothing.
use Rattle.std.proofs.Common.{◌≡◌, ℕ, ◌+◌, ◌<◌, ◌≤◌, true, ◌&&◌, List, [], ◌∷◌, ◌++◌, map, length, ℤ, ◌≤ℤ◌, Some, Ok, Err, Option, Result, sym, refl, ap, ◌∙◌, subst, append_assoc, append-nil, arith, length-append}
use lib.Signed.{le_z}
use Rattle.std.proofs.lemmas.List.{map-id}
use Rattle.std.proofs.lemmas.Int.{ints}
use Rattle.std.proofs.lemmas.Bool.{and_parts, eq-eqb, lt-ltb}
use Rattle.text.specs.declared.flaw.Flaw.{Flaw}
use Rattle.text.specs.declared.flaw.Flaw.TheVariants.{Range}
use Rattle.text.specs.Bytes.{is_name}
use Rattle.text.specs.Numbers.{whole_of}
use Rattle.text.specs.Pieces.{pieces, first_piece}
use Rattle.fields.specs.Items.{clock_condition, counter_condition, change, reset, call_of}
use Rattle.fields.specs.Lists.{list_of}
use Rattle.lines.specs.Lookup.{declared_anew}
use Rattle.lines.specs.declared.line_fault.LineFault.{LineFault}
use Rattle.edges.specs.Edges.{ends_fields, edge_fields, edge_of_fields, edge_line}
use Rattle.lines.specs.Columns.{field}
use Rattle.network.specs.Lines.{name_line, not_below, between, counter_name, counter_fields, counter_line}
use Rattle.network.specs.Networks.{Counter, Edge, Network, with_clocks, with_counters, with_channels, with_edge}
use Rattle.show.specs.declared.section.Section.{Section}
use Rattle.show.specs.Layout.{Among, AllNames, Lines, Names, column, CounterLine, Counters, EdgeLine, Edges}
use Rattle.show.proofs.Folding.{step, folded, with_edges, Both}
use Rattle.show.proofs.Naming.{one_piece, name_pieces, declared_ok, declared_on, Onward, Anew, distinct_law}
use Rattle.show.proofs.Taking.{ok_same, err_ok, cond_ok, with_ok, at_ok, counted_ok, room_ok, valued, value_ok, value_on, value_same}

-- a section whose lines add rows one by one, each as P says and fresh among those before it
module _ {R : Type 0} (P : ℕ → List ℕ → R → Type 0) (Fresh : List R → R → Type 0) (most : ℕ) where
  -- what one more line adds
  abbrev Grown : ℕ → List R → List ℕ → List R → Type 0
  Grown k xs l ys = (r : R) × P k l r × Fresh xs r × (length xs < most) × (ys ≡ xs ++ r ∷ [])

  module _ (put : List R → Network) where
    -- the network with that line
    abbrev More : ℕ → List R → List ℕ → Network → Type 0
    More k xs l m = (ys : List R) × Grown k xs l ys × (m ≡ put ys)

    -- what the lines declare
    abbrev All : ℕ → List R → List (List ℕ) → Network → Type 0
    All k xs ls m = (rs : List R) × Lines P k ls rs × Onward Fresh xs rs × (length xs + length rs ≤ most) × (m ≡ put (xs ++ rs))

    -- the rows of the whole section
    abbrev Whole : ℕ → List (List ℕ) → Network → Type 0
    Whole k ls m = (rs : List R) × Lines P k ls rs × Onward Fresh [] rs × (length rs ≤ most) × (m ≡ put rs)

    module _ (s : Section) where
      module _ (one : (k : ℕ) (xs : List R) (l : List ℕ) (m : Network) → Both (step s k (put xs) l ≡ Ok m) (More k xs l m)) where
        -- what is declared, where all lines are accepted
        rows_ok : (k : ℕ) (xs : List R) (ls : List (List ℕ)) (m : Network) → length xs ≤ most → folded s k (put xs) ls ≡ Ok m → All k xs ls m
        rows_ok k xs [] m few e = ([], tt, tt, omega arith, rw append-nil (sym (ok_same e)))
        rows_ok k xs (l ∷ ls) m few e =
            let w = with_ok (step s k (put xs) l) (λ m. folded s (k + 1) m ls) e in
            let a = (one k xs l w.0).0 w.1 in
            let g = a.1 in
            let r = g.0 in
            let b = rows_ok (k + 1) (xs ++ r ∷ []) ls m (rw length-append (omega arith)) (rw (a.2, g.4) at w.2) in
            let size : length (xs ++ r ∷ []) ≡ length xs + 1 = rw length-append refl in
            (r ∷ b.0, (g.1, b.1), (g.2, b.2), omega arith, rw append_assoc at b.4)

        -- all lines are accepted, where they declare it
        rows_on : (k : ℕ) (xs : List R) (ls : List (List ℕ)) (m : Network) → All k xs ls m → folded s k (put xs) ls ≡ Ok m
        rows_on k xs [] m ([], lines, anew, few, is) = rw (is, append-nil) refl
        rows_on k xs [] m (r ∷ rs, lines, anew, few, is) = absurd lines
        rows_on k xs (l ∷ ls) m ([], lines, anew, few, is) = absurd lines
        rows_on k xs (l ∷ ls) m (r ∷ rs, lines, anew, few, is) =
            let put_on = (one k xs l (put (xs ++ r ∷ []))).1 (xs ++ r ∷ [], (r, lines.0, anew.0, omega arith, refl), refl) in
            let size : length (xs ++ r ∷ []) ≡ length xs + 1 = rw length-append refl in
            rw put_on (rows_on (k + 1) (xs ++ r ∷ []) ls m (rs, lines.1, anew.1, omega arith, rw append_assoc is))

        rows_law : (k : ℕ) (n m : Network) (ls : List (List ℕ)) → n ≡ put [] → Both (folded s k n ls ≡ Ok m) (Whole k ls m)
        rows_law k n m ls none = rw none (λ e. let a = rows_ok k [] ls m (omega arith) e in (a.0, a.1, a.2, omega arith, a.4), λ a. rows_on k [] ls m (a.0, a.1, a.2, omega arith, a.4))

      -- a section whose lines give the rows with one more
      module _ (line : ℕ → List R → List ℕ → Result (List R) LineFault) (grows : (k : ℕ) (xs : List R) (l : List ℕ) (ys : List R) → Both (line k xs l ≡ Ok ys) (Grown k xs l ys)) (after : Option Section) (same : (k : ℕ) (xs : List R) (l : List ℕ) → step s k (put xs) l ≡ valued put after (line k xs l)) where
        -- one such line
        line_one : (k : ℕ) (xs : List R) (l : List ℕ) (m : Network) → Both (step s k (put xs) l ≡ Ok m) (More k xs l m)
        line_one k xs l m = rw (same k xs l) (
          λ e. let v = value_ok put after (line k xs l) m e in (v.0, (grows k xs l v.0).0 v.1, v.2),
          λ a. value_on put after (line k xs l) m a.0 ((grows k xs l a.0).1 a.1) a.2,
        )

        lines_law : (k : ℕ) (n m : Network) (ls : List (List ℕ)) → n ≡ put [] → Both (folded s k n ls ≡ Ok m) (Whole k ls m)
        lines_law = rows_law line_one

-- a line that is a name
abbrev NameRow : ℕ → List ℕ → List ℕ → Type 0
NameRow k l name = (l ≡ name) × (is_name name ≡ true)

-- the lines are the names
names_ok : (k : ℕ) (ls names : List (List ℕ)) → Lines NameRow k ls names → (ls ≡ names) × AllNames names
names_ok k [] [] rows = (refl, tt)
names_ok k [] (x ∷ xs) rows = absurd rows
names_ok k (l ∷ ls) [] rows = absurd rows
names_ok k (l ∷ ls) (x ∷ xs) rows = let a = names_ok (k + 1) ls xs rows.1 in (rw (rows.0.0, a.0) refl, (rows.0.1, a.1))

names_on : (k : ℕ) (names : List (List ℕ)) → AllNames names → Lines NameRow k names names
names_on k [] form = tt
names_on k (x ∷ xs) form = ((refl, form.0), names_on (k + 1) xs form.1)

-- a name that is new, with room for it, is accepted
name_on : (most : ℕ) (names fs : List (List ℕ)) (x : List ℕ) → fs ≡ x ∷ [] → length names < most → is_name x ≡ true → (Among x names → ⊥) → name_line most names fs ≡ Ok (names ++ x ∷ [])
name_on most names fs x cols few form anew = rw (cols, lt-ltb (length names) most few, declared_on names x form anew) refl

-- what a line of names adds
name_grows : (most k : ℕ) (names : List (List ℕ)) (l : List ℕ) (out : List (List ℕ)) → Both (name_line most names (pieces 32 l) ≡ Ok out) (Grown NameRow (Anew (λ x. x)) most k names l out)
name_grows most k names l out = (front, λ a. name_on most names (pieces 32 l) a.0 (rw a.1.0 (name_pieces a.0 a.1.1)) a.3 a.1.1 (rw map-id at a.2) ∙ ap Ok (sym a.4))
  where
    front : name_line most names (pieces 32 l) ≡ Ok out → Grown NameRow (Anew (λ x. x)) most k names l out
    front e =
        let c = counted_ok 1 (pieces 32 l) e in
        let r = room_ok most names c.1 in
        let a = at_ok 1 (declared_anew names (first_piece 32 l)) _ r.1 in
        let d = declared_ok names (first_piece 32 l) a.0 a.1 in
        let is : l ≡ a.0 = sym (one_piece 32 l c.0) ∙ d.2 in
        (a.0, (is, rw d.2 at d.0), rw (map-id names, ← d.2) d.1, r.0, sym (ok_same a.2))

-- a section of names
module _ (most : ℕ) (s : Section) (put : List (List ℕ) → Network) (after : Option Section) (same : (k : ℕ) (names : List (List ℕ)) (l : List ℕ) → step s k (put names) l ≡ valued put after (name_line most names (pieces 32 l))) where
  names_law : (k : ℕ) (n m : Network) (ls : List (List ℕ)) → n ≡ put [] → Both (folded s k n ls ≡ Ok m) ((names : List (List ℕ)) × Names most ls names × (m ≡ put names))
  names_law k n m ls none =
      let law = lines_law NameRow (Anew (λ x. x)) most put s (λ k names l. name_line most names (pieces 32 l)) (name_grows most) after same k n m ls none in (
        λ e. let a = law.0 e in let p = names_ok k ls a.0 a.1 in (a.0, record { same = p.0; form = p.1; distinct = rw map-id at ((distinct_law (λ x. x) a.0).0 a.2); few = a.3 }, a.4),
        λ a. let h = a.1 in law.1 (a.0, rw h.same (names_on k a.0 h.form), (distinct_law (λ x. x) a.0).1 (rw map-id h.distinct), h.few, a.2),
      )

-- the lines of the clocks
pub clocks_law : (k : ℕ) (n m : Network) (ls : List (List ℕ)) → n.clocks ≡ [] → Both (folded Section.Clocks k n ls ≡ Ok m) ((names : List (List ℕ)) × Names 7 ls names × (m ≡ with_clocks n names))
clocks_law k n m ls start = names_law 7 Section.Clocks (with_clocks n) (Some Section.Clocks) (λ k names l. refl) k n m ls (ap (with_clocks n) start)

-- the lines of the channels
pub channels_law : (k : ℕ) (n m : Network) (ls : List (List ℕ)) → n.channels ≡ [] → Both (folded Section.Channels k n ls ≡ Ok m) ((names : List (List ℕ)) × Names 8 ls names × (m ≡ with_channels n names))
channels_law k n m ls start = names_law 8 Section.Channels (with_channels n) (Some Section.Channels) (λ k names l. refl) k n m ls (ap (with_channels n) start)

-- whole numbers that are in range
le_law : (a b : ℤ) → Both (le_z a b ≡ true) (a ≤ℤ b)
le_law a b = (λ e. grind (arith, ints), λ h. grind (arith, ints))

-- and what a test of them says
below_ok : (low z : ℤ) (r : Result ℤ Flaw) → not_below low r ≡ Ok z → (r ≡ Ok z) × (low ≤ℤ z)
below_ok low z (Ok y) e = let p = cond_ok (le_z low y) (Ok y) Range e in (p.1, rw (ok_same p.1) at ((le_law low y).0 p.0))
below_ok low z (Err f) e = err_ok e

between_ok : (low high z : ℤ) (r : Result ℤ Flaw) → between low high r ≡ Ok z → (r ≡ Ok z) × (low ≤ℤ z) × (z ≤ℤ high)
between_ok low high z (Ok y) e =
    let p = cond_ok (le_z low y && le_z y high) (Ok y) Range e in
    let q = and_parts (le_z low y) (le_z y high) p.0 in
    let is = ok_same p.1 in
    (p.1, rw is at ((le_law low y).0 q.0), rw is at ((le_law y high).0 q.1))
between_ok low high z (Err f) e = err_ok e

module _ (cs : List Counter) (k : ℕ) (l : List ℕ) (c : Counter) where
  -- accepted fields are a new counter's, and those are accepted
  counter_ok : length (pieces 32 l) ≡ 4 → counter_fields cs (column 1 l) (column 2 l) (column 3 l) (column 4 l) ≡ Ok c → CounterLine k l c × Anew counter_name cs c
  counter_ok count e =
      let a = at_ok 1 (declared_anew (map counter_name cs) (column 1 l)) _ e in
      let b = at_ok 2 (whole_of (column 2 l)) _ a.2 in
      let h = at_ok 3 (not_below b.0 (whole_of (column 3 l))) _ b.2 in
      let f = at_ok 4 (between b.0 h.0 (whole_of (column 4 l))) _ h.2 in
      let d = declared_ok (map counter_name cs) (column 1 l) a.0 a.1 in
      let up = below_ok b.0 h.0 (whole_of (column 3 l)) h.1 in
      let mid = between_ok b.0 h.0 f.0 (whole_of (column 4 l)) f.1 in
      subst (λ c. CounterLine k l c × Anew counter_name cs c) (ok_same f.2) (record { count = count; name = d.2; form = rw d.2 at d.0; low = b.1; high = up.0; first = mid.0; upward = up.1; from = mid.1; to = mid.2 }, rw (← d.2) d.1)

  counter_on : CounterLine k l c → Anew counter_name cs c → length cs < 8 → counter_line cs (pieces 32 l) ≡ Ok (cs ++ c ∷ [])
  counter_on h anew few =
      let up = (le_law c.low c.high).1 h.upward in
      let from = (le_law c.low c.first).1 h.from in
      let to = (le_law c.first c.high).1 h.to in
      rw (eq-eqb (length (pieces 32 l)) 4 h.count, lt-ltb (length cs) 8 few, h.name, declared_on (map counter_name cs) c.name h.form anew, h.low, h.high, up, h.first, from, to) refl

-- what a line of counters adds
counter_grows : (k : ℕ) (cs : List Counter) (l : List ℕ) (out : List Counter) → Both (counter_line cs (pieces 32 l) ≡ Ok out) (Grown CounterLine (Anew counter_name) 8 k cs l out)
counter_grows k cs l out = (front, λ a. counter_on cs k l a.0 a.1 a.2 a.3 ∙ ap Ok (sym a.4))
  where
    front : counter_line cs (pieces 32 l) ≡ Ok out → Grown CounterLine (Anew counter_name) 8 k cs l out
    front e =
        let n = counted_ok 4 (pieces 32 l) e in
        let r = room_ok 8 cs n.1 in
        let w = with_ok (counter_fields cs (column 1 l) (column 2 l) (column 3 l) (column 4 l)) _ r.1 in
        let h = counter_ok cs k l w.0 n.0 w.1 in
        (w.0, h.0, h.1, r.0, sym (ok_same w.2))

-- the lines of the counters
pub counters_law : (k : ℕ) (n m : Network) (ls : List (List ℕ)) → n.counters ≡ [] → Both (folded Section.Counters k n ls ≡ Ok m) ((counters : List Counter) × Counters k ls counters × (m ≡ with_counters n counters))
counters_law k n m ls start =
    let law = lines_law CounterLine (Anew counter_name) 8 (with_counters n) Section.Counters (λ k cs l. counter_line cs (pieces 32 l)) counter_grows (Some Section.Counters) (λ k cs l. refl) k n m ls (ap (with_counters n) start) in (
      λ e. let a = law.0 e in (a.0, record { lines = a.1; distinct = (distinct_law counter_name a.0).0 a.2; few = a.3 }, a.4),
      λ a. let h = a.1 in law.1 (a.0, h.lines, (distinct_law counter_name a.0).1 h.distinct, h.few, a.2),
    )

-- an edge has the ends that are given
edge_ends : (n : Network) (k : ℕ) (ends : ℕ × ℕ × ℕ) (f4 f5 f6 f7 f8 : List ℕ) (e : Edge) → edge_fields n k ends f4 f5 f6 f7 f8 ≡ Ok e → ends ≡ (e.part, e.from, e.to)
edge_ends n k ends f4 f5 f6 f7 f8 e is =
    let a = at_ok 4 (list_of 4 (clock_condition n.clocks) f4) _ is in
    let b = at_ok 5 (list_of 4 (counter_condition (map counter_name n.counters)) f5) _ a.2 in
    let c = at_ok 6 (call_of n.channels f6) _ b.2 in
    let d = at_ok 7 (list_of 7 (reset n.clocks) f7) _ c.2 in
    let f = at_ok 8 (list_of 4 (change (map counter_name n.counters)) f8) _ d.2 in
    ap (λ (e : Edge). (e.part, e.from, e.to)) (ok_same f.2)

-- accepted fields are an edge's
edge_row : (n : Network) (k : ℕ) (l : List ℕ) (ends : ℕ × ℕ × ℕ) (e : Edge) → length (pieces 32 l) ≡ 8 → ends_fields n (column 1 l) (column 2 l) (column 3 l) ≡ Ok ends → edge_fields n k ends (column 4 l) (column 5 l) (column 6 l) (column 7 l) (column 8 l) ≡ Ok e → EdgeLine n k l e
edge_row n k l ends e count was is =
    let same = edge_ends n k ends (column 4 l) (column 5 l) (column 6 l) (column 7 l) (column 8 l) e is in
    record { count = count; ends = was ∙ ap Ok same; labels = rw same at is }

-- a line of accepted fields is accepted
edge_line_lem : (n : Network) (k : ℕ) (fs : List (List ℕ)) (ends : ℕ × ℕ × ℕ) (e : Edge) → length fs ≡ 8 → length n.edges < 96 → ends_fields n (field 1 fs) (field 2 fs) (field 3 fs) ≡ Ok ends → edge_fields n k ends (field 4 fs) (field 5 fs) (field 6 fs) (field 7 fs) (field 8 fs) ≡ Ok e → edge_line n k fs ≡ Ok (with_edge n e)
edge_line_lem n k fs ends e count few was is = rw (eq-eqb (length fs) 8 count, lt-ltb (length n.edges) 96 few, was, is) refl

-- edges may be the same
abbrev Any : List Edge → Edge → Type 0
Any es e = Unit {0}

any_onward : (seen es : List Edge) → Onward Any seen es
any_onward seen [] = tt
any_onward seen (e ∷ es) = (tt, any_onward (seen ++ e ∷ []) es)

-- one line of edges
edge_one : (n : Network) (k : ℕ) (es : List Edge) (l : List ℕ) (m : Network) → Both (step Section.Edges k (with_edges n es) l ≡ Ok m) (More (EdgeLine n) Any 96 (with_edges n) k es l m)
edge_one n k es l m = (front, back)
  where
    front : step Section.Edges k (with_edges n es) l ≡ Ok m → More (EdgeLine n) Any 96 (with_edges n) k es l m
    front e =
        let c = counted_ok 8 (pieces 32 l) (sym (value_same (Some Section.Edges) (edge_line (with_edges n es) k (pieces 32 l))) ∙ e) in
        let r = room_ok 96 es c.1 in
        let b = with_ok (edge_of_fields n k (pieces 32 l)) _ r.1 in
        let a = with_ok (ends_fields n (column 1 l) (column 2 l) (column 3 l)) _ b.1 in
        (es ++ b.0 ∷ [], (b.0, edge_row n k l a.0 b.0 c.0 a.1 a.2, tt, r.0, refl), sym (ok_same b.2))

    back : More (EdgeLine n) Any 96 (with_edges n) k es l m → step Section.Edges k (with_edges n es) l ≡ Ok m
    back (ys, (e, h, any, few, grown), is) =
        value_same (Some Section.Edges) (edge_line (with_edges n es) k (pieces 32 l)) ∙ edge_line_lem (with_edges n es) k (pieces 32 l) (e.part, e.from, e.to) e h.count few h.ends h.labels ∙ ap Ok (sym (is ∙ ap (with_edges n) grown))

-- the lines of the edges
pub edges_law : (k : ℕ) (n m : Network) (ls : List (List ℕ)) → n.edges ≡ [] → Both (folded Section.Edges k n ls ≡ Ok m) ((edges : List Edge) × Edges n k ls edges × (m ≡ with_edges n edges))
edges_law k n m ls start =
    let law = rows_law (EdgeLine n) Any 96 (with_edges n) Section.Edges (edge_one n) k n m ls (ap (with_edges n) start) in (
      λ e. let a = law.0 e in (a.0, record { lines = a.1; few = a.3 }, a.4),
      λ a. let h = a.1 in law.1 (a.0, h.lines, any_onward [] a.0, h.few, a.2),
    )
