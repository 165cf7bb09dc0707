-- What the lines of the places section declare, taken together. Assumes nothing.
use Rattle.std.proofs.Common.{◌≡◌, ℕ, ◌+◌, ◌<◌, ◌≤◌, true, ◌&&◌, eqb, List, [], ◌∷◌, ◌++◌, map, length, Some, Ok, Decides, Result, sym, refl, ap, ◌∙◌, subst, inl, inr, ⊎_elim, append_assoc, append-nil, arith, length-append}
use Rattle.std.specs.Str.{bytes_eq}
use Rattle.std.proofs.lemmas.Slice.Eq.{bytes_eq-Decides}
use Rattle.std.proofs.lemmas.List.{map_push, map-append, length_push}
use Rattle.std.proofs.lemmas.Bool.{and_parts, and_from, eqb-true, eq-eqb, ltb-true, lt-ltb}
use Rattle.text.specs.Bytes.{is_name}
use Rattle.text.specs.Pieces.{pieces}
use Rattle.fields.specs.Items.{clock_condition}
use Rattle.fields.specs.Lists.{list_of}
use Rattle.lines.specs.declared.line_fault.LineFault.{LineFault}
use Rattle.lines.specs.Columns.{with, field}
use Rattle.network.specs.Lines.{part_of, place_position, new_place, place_fields, place_line}
use Rattle.network.specs.Networks.{Place, Network, with_place}
use Rattle.show.specs.declared.section.Section.{Section}
use Rattle.show.specs.Layout.{Among, Distinct, At, Lines, column, PlaceLine, onces, place_key, Places}
use Rattle.show.proofs.Folding.{step, folded, with_places, Both}
use Rattle.show.proofs.Naming.{distinct_push, distinct_front, at_front, at_last, at_once, Looked, looked_more, anew_ok, anew_on, known_or_new}
use Rattle.show.proofs.Taking.{ok_same, cond_ok, with_ok, at_ok, counted_ok, room_ok, value_same}

-- what holds of the names that are seen, and still with a new one, holds with all that are met
kept : (P : List (List ℕ) → Type 0) → ((seen : List (List ℕ)) (x : List ℕ) → (Among x seen → ⊥) → P seen → P (seen ++ x ∷ [])) → (seen xs : List (List ℕ)) → P seen → P (onces seen xs)
kept P more seen [] h = h
kept P more seen (x ∷ xs) h =
    let next : P (onces seen (x ∷ [])) = ⊎_elim (λ f. rw f.1 h) (λ f. rw f.0 (more seen x f.1 h)) (known_or_new x seen) in
    kept P more (onces seen (x ∷ [])) xs next

-- a name that is seen stays where it is
at_onces : (i : ℕ) (y : List ℕ) (seen xs : List (List ℕ)) → At i seen y → At i (onces seen xs) y
at_onces i y seen xs h = kept (λ s. At i s y) (λ s x new g. at_front i s (x ∷ []) y g) seen xs h

-- distinct names stay distinct
distinct_onces : (seen xs : List (List ℕ)) → Distinct seen → Distinct (onces seen xs)
distinct_onces seen xs d = kept Distinct (λ s x new g. distinct_push x s g new) seen xs d

-- no name that is seen is lost
length_onces : (seen xs : List (List ℕ)) → length seen ≤ length (onces seen xs)
length_onces seen xs = kept (λ s. length seen ≤ length s) (λ s x new g. rw (length_push s x) (omega arith)) seen xs (omega arith)

-- a part by its name: its place, and the parts with it
record PartIs (parts : List (List ℕ)) (x : List ℕ) (r : ℕ × List (List ℕ)) : Type 0 where
  form : is_name x ≡ true
  all : onces parts (x ∷ []) ≡ r.1
  stands : At r.0 (onces parts (x ∷ [])) x
  few : length parts ≤ 6 → length (onces parts (x ∷ [])) ≤ 6

-- what a part that is read is
part_there : (parts : List (List ℕ)) (x : List ℕ) (r : ℕ × List (List ℕ)) → part_of parts x ≡ Ok r → PartIs parts x r
part_there parts x r e =
    let named = cond_ok (is_name x) _ _ e in
    ⊎_elim
    (λ f.
    let same : (f.0, parts) ≡ r = ok_same (rw f.1 at named.1) in
    record { form = named.0; all = rw f.1 (ap (λ q. q.1) same); stands = rw (f.1, ← same) f.2; few = rw f.1 (λ h. h) })
    (λ f.
    let room = cond_ok _ _ _ (rw f.0 at named.1) in
    let same : (length parts, parts ++ x ∷ []) ≡ r = ok_same room.1 in
    let less = ltb-true (length parts) 6 room.0 in
    record { form = named.0; all = rw f.0 (ap (λ q. q.1) same); stands = rw (f.0, ← same) (at_last parts x); few = rw (f.0, length_push parts x) (λ h. omega arith) })
    (known_or_new x parts)

-- a part is read where there is room for it
part_back : (parts : List (List ℕ)) (x : List ℕ) → is_name x ≡ true → length (onces parts (x ∷ [])) ≤ 6 → (i : ℕ) × (part_of parts x ≡ Ok (i, onces parts (x ∷ []))) × At i (onces parts (x ∷ [])) x
part_back parts x form few =
    ⊎_elim
    (λ f. (f.0, rw (form, f.1) refl, rw f.1 f.2))
    (λ f.
    let less : length parts < 6 = omega (arith, rw (f.0, length_push parts x) at few) in
    (length parts, rw (form, f.0, lt-ltb (length parts) 6 less) refl, rw f.0 (at_last parts x)))
    (known_or_new x parts)

-- a place is told by its part and its name
same_place : (p : Place) (part : ℕ) (x : List ℕ) → Decides (eqb p.part part && bytes_eq p.name x) (place_key p ≡ (part, x))
same_place p part x = (
  λ e. let both = and_parts (eqb p.part part) (bytes_eq p.name x) e in rw (eqb-true p.part part both.0, (bytes_eq-Decides p.name x).0 both.1) refl,
  λ e. and_from _ _ (eq-eqb p.part part (ap (λ q. q.0) e)) ((bytes_eq-Decides p.name x).1 (ap (λ q. q.1) e)),
)

-- a place of a part is declared just where its part and name are among the places
placed : (k part : ℕ) (x : List ℕ) (places : List Place) → Looked (place_position k part x places) (λ j. Among (part, x) (map place_key places)) (Among (part, x) (map place_key places))
placed k part x [] = inr (refl, λ h. h)
placed k part x (p ∷ places) = looked_more (eqb p.part part && bytes_eq p.name x) k (place_position (k + 1) part x places) (same_place p part x) inl (λ j h. inr h) (placed (k + 1) part x places)

-- a line of accepted fields is accepted
place_line_lem : (n : Network) (k : ℕ) (fs : List (List ℕ)) (r : ℕ × List (List ℕ)) (p : Place) → length fs ≡ 3 → length n.places < 48 → part_of n.parts (field 1 fs) ≡ Ok r → place_fields n r.0 k (field 2 fs) (field 3 fs) ≡ Ok p → place_line n k fs ≡ Ok (with_place n r.1 p)
place_line_lem n k fs r p count few part is = rw (eq-eqb (length fs) 3 count, lt-ltb (length n.places) 48 few, part, is) refl

-- the parts with those that lines name
abbrev met : Network → List (List ℕ) → List (List ℕ)
met n ls = onces n.parts (map (column 1) ls)

-- the network with the parts and the places that lines declare
abbrev grown : Network → List (List ℕ) → List Place → Network
grown n ls places = with_places n (met n ls) (n.places ++ places)

-- a line of a place, and the lines after it
module _ (n : Network) (k : ℕ) (l : List ℕ) (ls : List (List ℕ)) where
  -- the line declares this place, a new one, and there is room for it
  record LineIs (p : Place) : Type 0 where
    reads : PlaceLine n.clocks (met n (l ∷ ls)) k l p
    new : Among (place_key p) (map place_key n.places) → ⊥
    room : length n.places < 48

  -- what accepted fields declare
  fields_there : (part : ℕ) (p : Place) → length (pieces 32 l) ≡ 3 → length n.places < 48 → At part (met n (l ∷ ls)) (column 1 l) → is_name (column 1 l) ≡ true → place_fields n part k (column 2 l) (column 3 l) ≡ Ok p → LineIs p
  fields_there part p count room stands form e =
      let name = at_ok 2 (new_place n.places part (column 2 l)) _ e in
      let invariant = at_ok 3 (list_of 4 (clock_condition n.clocks) (column 3 l)) _ name.2 in
      let new = anew_ok (place_position 0 part (column 2 l) n.places) (placed 0 part (column 2 l) n.places) (column 2 l) name.0 name.1 in
      subst LineIs (ok_same invariant.2) (record {
        reads = record { count = count; part = stands; part_form = form; name = new.2; form = rw new.2 at new.0; invariant = invariant.1; line = refl };
        new = rw (← new.2) new.1;
        room = room;
      })

  -- such fields are accepted
  fields_back : (p : Place) → LineIs p → place_fields n p.part k (column 2 l) (column 3 l) ≡ Ok p
  fields_back p h =
      let reads = h.reads in
      let new = anew_on (place_position 0 p.part p.name n.places) (placed 0 p.part p.name n.places) p.name (λ j a. a) reads.form h.new in
      rw (reads.name, new, reads.invariant, ← reads.line) refl

  -- what a line that is read declares
  line_there : (m : Network) → step Section.Places k n l ≡ Ok m → (p : Place) × LineIs p × (length n.parts ≤ 6 → length (met n (l ∷ [])) ≤ 6) × (grown n (l ∷ []) (p ∷ []) ≡ m)
  line_there m e =
      let count = counted_ok 3 (pieces 32 l) (sym (value_same (Some Section.Places) (place_line n k (pieces 32 l))) ∙ e) in
      let room = room_ok 48 n.places count.1 in
      let r = at_ok 1 (part_of n.parts (column 1 l)) _ room.1 in
      let p = with_ok (place_fields n r.0.0 k (column 2 l) (column 3 l)) _ r.2 in
      let part = part_there n.parts (column 1 l) r.0 r.1 in
      let stands = at_onces r.0.0 (column 1 l) (met n (l ∷ [])) (map (column 1) ls) part.stands in
      (p.0, fields_there r.0.0 p.0 count.0 room.0 stands part.form p.1, part.few, ap (λ q. with_place n q p.0) part.all ∙ ok_same p.2)

  -- such a line is read
  line_back : (p : Place) → LineIs p → Distinct (met n (l ∷ ls)) → length (met n (l ∷ ls)) ≤ 6 → step Section.Places k n l ≡ Ok (grown n (l ∷ []) (p ∷ []))
  line_back p h distinct few =
      let reads = h.reads in
      let part = part_back n.parts (column 1 l) reads.part_form (omega (arith, length_onces (met n (l ∷ [])) (map (column 1) ls))) in
      let same : p.part ≡ part.0 = at_once p.part part.0 (met n (l ∷ ls)) (column 1 l) distinct reads.part (at_onces part.0 (column 1 l) (met n (l ∷ [])) (map (column 1) ls) part.2) in
      let is = subst (λ i. place_fields n i k (column 2 l) (column 3 l) ≡ Ok p) same (fields_back p h) in
      value_same (Some Section.Places) (place_line n k (pieces 32 l)) ∙ place_line_lem n k (pieces 32 l) (part.0, met n (l ∷ [])) p reads.count h.room part.1 is

-- what is asked of the places together
record Apart (places : List Place) : Type 0 where
  distinct : Distinct (map place_key places)
  few : length places ≤ 48

-- lines from line k on declare these places, besides those that are declared
record Grown (n : Network) (k : ℕ) (ls : List (List ℕ)) (places : List Place) : Type 0 where
  lines : Lines (PlaceLine n.clocks (met n ls)) k ls places
  few_parts : length (met n ls) ≤ 6
  apart : Apart (n.places ++ places)

-- what lines that are read declare
lines_there : (k : ℕ) (n m : Network) (ls : List (List ℕ)) → length n.parts ≤ 6 → Apart n.places → folded Section.Places k n ls ≡ Ok m → (places : List Place) × Grown n k ls places × (grown n ls places ≡ m)
lines_there k n m [] few_parts apart e =
    let all = append-nil n.places in
    ([], record { lines = tt; few_parts = few_parts; apart = subst Apart (sym all) apart }, ap (with_places n n.parts) all ∙ ok_same e)
lines_there k n m (l ∷ ls) few_parts apart e =
    let first = with_ok (step Section.Places k n l) (λ o. folded Section.Places (k + 1) o ls) e in
    let line = line_there n k l ls first.0 first.1 in
    let p = line.0 in
    let more : Apart (n.places ++ p ∷ []) = record {
      distinct = rw (map_push place_key n.places p) (distinct_push (place_key p) (map place_key n.places) apart.distinct line.1.new);
      few = omega (arith, length_push n.places p, line.1.room);
    } in
    let rest = lines_there (k + 1) (grown n (l ∷ []) (p ∷ [])) m ls (line.2 few_parts) more (subst (λ (o : Network). folded Section.Places (k + 1) o ls ≡ Ok m) (sym line.3) first.2) in
    let all = append_assoc n.places (p ∷ []) rest.0 in
    (p ∷ rest.0, record { lines = (line.1.reads, rest.1.lines); few_parts = rest.1.few_parts; apart = subst Apart all rest.1.apart }, ap (with_places n (met n (l ∷ ls))) (sym all) ∙ rest.2)

-- such lines are read
lines_back : (k : ℕ) (n : Network) (ls : List (List ℕ)) (places : List Place) → Distinct n.parts → Grown n k ls places → folded Section.Places k n ls ≡ Ok (grown n ls places)
lines_back k n [] [] distinct h = ap (λ (ps : List Place). Ok (with_places n n.parts ps)) (sym (append-nil n.places))
lines_back k n [] (p ∷ places) distinct h = absurd h.lines
lines_back k n (l ∷ ls) [] distinct h = absurd h.lines
lines_back k n (l ∷ ls) (p ∷ places) distinct h =
    let all = append_assoc n.places (p ∷ []) places in
    let line : LineIs n k l ls p = record {
      reads = h.lines.0;
      new = distinct_front (place_key p) (map place_key n.places) (map place_key places) (rw map-append at h.apart.distinct);
      room = omega (arith, length-append n.places (p ∷ places), h.apart.few);
    } in
    let first = line_back n k l ls p line (distinct_onces n.parts (map (column 1) (l ∷ ls)) distinct) h.few_parts in
    let rest = lines_back (k + 1) (grown n (l ∷ []) (p ∷ [])) ls places (distinct_onces n.parts (column 1 l ∷ []) distinct) (record { lines = h.lines.1; few_parts = h.few_parts; apart = subst Apart (sym all) h.apart }) in
    ap (λ (r : Result Network LineFault). with r (λ o. folded Section.Places (k + 1) o ls)) first ∙ rest ∙ ap (λ (ps : List Place). Ok (with_places n (met n (l ∷ ls)) ps)) all

-- the lines of the section are read just where they declare parts and places as the format says, and give the network with those
pub places_law : (k : ℕ) (n m : Network) (ls : List (List ℕ)) → n.parts ≡ [] → n.places ≡ [] → Both (folded Section.Places k n ls ≡ Ok m) ((parts : List (List ℕ)) × (places : List Place) × Places n.clocks k ls parts places × (m ≡ with_places n parts places))
places_law k n m ls no-parts no-places = (there, back)
  where
    from_none : met n ls ≡ onces [] (map (column 1) ls)
    from_none = ap (λ (seen : List (List ℕ)). onces seen (map (column 1) ls)) no-parts

    alone : (places : List Place) → n.places ++ places ≡ places
    alone places = ap (λ (ps : List Place). ps ++ places) no-places

    there : folded Section.Places k n ls ≡ Ok m → (parts : List (List ℕ)) × (places : List Place) × Places n.clocks k ls parts places × (m ≡ with_places n parts places)
    there e =
        let none : Apart n.places = record { distinct = rw no-places tt; few = rw no-places (omega arith) } in
        let h = lines_there k n m ls (rw no-parts (omega arith)) none e in
        let apart = subst Apart (alone h.0) h.1.apart in
        (met n ls, h.0, record { lines = h.1.lines; parts_are = from_none; few_parts = h.1.few_parts; distinct = apart.distinct; few = apart.few }, sym h.2 ∙ ap (with_places n (met n ls)) (alone h.0))

    back : ((parts : List (List ℕ)) × (places : List Place) × Places n.clocks k ls parts places × (m ≡ with_places n parts places)) → folded Section.Places k n ls ≡ Ok m
    back s =
        let parts_are = s.2.parts_are ∙ sym from_none in
        let h : Grown n k ls s.1 = record {
          lines = subst (λ (parts : List (List ℕ)). Lines (PlaceLine n.clocks parts) k ls s.1) parts_are s.2.lines;
          few_parts = subst (λ (parts : List (List ℕ)). length parts ≤ 6) parts_are s.2.few_parts;
          apart = subst Apart (sym (alone s.1)) (record { distinct = s.2.distinct; few = s.2.few });
        } in
        let same : m ≡ grown n ls s.1 = s.3 ∙ ap (λ (parts : List (List ℕ)). with_places n parts s.1) parts_are ∙ ap (with_places n (met n ls)) (sym (alone s.1)) in
        lines_back k n ls s.1 (rw no-parts tt) h ∙ ap Ok (sym same)
