-- The lines of a show file, section by section: what each declares, or what is wrong with it. Assumes nothing.
use Rattle.std.specs.Prelude.{ℕ, ◌+◌, Bool, cond, ◌&&◌, List, [], ◌∷◌, ◌++◌, map, length, ℤ, Some, None, Ok, Err, codes, Option, Result, ◌==◌, int_le, nat_lt}
use Rattle.std.specs.Str.{bytes_eq}
use Rattle.text.specs.declared.flaw.Flaw.{Flaw}
use Rattle.text.specs.declared.flaw.Flaw.TheVariants.{Form, Range, Count}
use Rattle.text.specs.Bytes.{is_name}
use Rattle.text.specs.Numbers.{whole_of}
use Rattle.lines.specs.Columns.{field, at, with, counted, room}
use Rattle.lines.specs.Lookup.{position, known_at, unknown_at, declared_anew}
use Rattle.fields.specs.Items.{clock_condition}
use Rattle.fields.specs.Lists.{list_of}
use Rattle.network.specs.declared.records.Time.{Time}
use Rattle.network.specs.declared.records.Time.TheVariants.{Fine, Whole}
use Rattle.lines.specs.declared.line_fault.LineFault.{LineFault}
use Rattle.network.specs.Networks.{Counter, Place, Network, with_place}

-- the section `time`: one line, `fine` or `whole`
abbrev pub time_word : List ℕ → Result Time Flaw
time_word bs = cond (bytes_eq bs (codes "fine")) (Ok Fine) (cond (bytes_eq bs (codes "whole")) (Ok Whole) (Err Form))

abbrev pub time_line : List (List ℕ) → Result Time LineFault
time_line fs = counted 1 fs (at 1 (time_word (field 1 fs)) Ok)

-- the sections `clock` and `channel`: a name; the names with it
abbrev pub name_line : ℕ → List (List ℕ) → List (List ℕ) → Result (List (List ℕ)) LineFault
name_line most names fs =
    counted 1 fs (room most names (
    at 1 (declared_anew names (field 1 fs)) (λ name.
    Ok (names ++ name ∷ []))))

-- a number that must pass a test
abbrev pub ranged : (ℤ → Bool) → Result ℤ Flaw → Result ℤ Flaw
ranged test (Ok z) = cond (test z) (Ok z) (Err Range)
ranged test (Err f) = Err f

-- a number that must be from low on, and one that must be from low to high
abbrev pub not_below : ℤ → Result ℤ Flaw → Result ℤ Flaw
not_below low = ranged (int_le low)

abbrev pub between : ℤ → ℤ → Result ℤ Flaw → Result ℤ Flaw
between low high = ranged (λ z. int_le low z && int_le z high)

abbrev pub counter_name : Counter → List ℕ
counter_name c = c.name

-- a counter by the fields of its line
abbrev pub counter_fields : List Counter → List ℕ → List ℕ → List ℕ → List ℕ → Result Counter LineFault
counter_fields counters f1 f2 f3 f4 =
    at 1 (declared_anew (map counter_name counters) f1) (λ name.
    at 2 (whole_of f2) (λ low.
    at 3 (not_below low (whole_of f3)) (λ high.
    at 4 (between low high (whole_of f4)) (λ first.
    Ok (record { name = name; low = low; high = high; first = first })))))

-- the section `counter low high first`; the counters with the new one
abbrev pub counter_line : List Counter → List (List ℕ) → Result (List Counter) LineFault
counter_line counters fs =
    counted 4 fs (room 8 counters (
    with (counter_fields counters (field 1 fs) (field 2 fs) (field 3 fs) (field 4 fs)) (λ c.
    Ok (counters ++ c ∷ []))))

abbrev added : List (List ℕ) → List ℕ → Option ℕ → Result (ℕ × List (List ℕ)) Flaw
added parts x (Some k) = Ok (k, parts)
added parts x None = cond (nat_lt (length parts) 6) (Ok (length parts, parts ++ x ∷ [])) (Err Count)

-- a part by its name, declared by its first line; there are at most 6; the part's place, and the parts with it
abbrev pub part_of : List (List ℕ) → List ℕ → Result (ℕ × List (List ℕ)) Flaw
part_of parts x = cond (is_name x) (added parts x (position 0 x parts)) (Err Form)

-- where the place of that part and name stands, counted from k
abbrev pub place_position : ℕ → ℕ → List ℕ → List Place → Option ℕ
place_position k part x [] = None
place_position k part x (p ∷ ps) = cond (p.part == part && bytes_eq p.name x) (Some k) (place_position (k + 1) part x ps)

-- a place of a part that must be declared, and one that must not be declared yet
abbrev pub known_place : List Place → ℕ → List ℕ → Result ℕ Flaw
known_place places part x = known_at x (place_position 0 part x places)

abbrev pub new_place : List Place → ℕ → List ℕ → Result (List ℕ) Flaw
new_place places part x = unknown_at x (place_position 0 part x places)

-- a place of a part by the other fields of its line, line k of the file
abbrev pub place_fields : Network → ℕ → ℕ → List ℕ → List ℕ → Result Place LineFault
place_fields n part k f2 f3 =
    at 2 (new_place n.places part f2) (λ name.
    at 3 (list_of 4 (clock_condition n.clocks) f3) (λ invariant.
    Ok (record { part = part; name = name; invariant = invariant; line = k })))

-- the section `part place when`, line k of the file
abbrev pub place_line : Network → ℕ → List (List ℕ) → Result Network LineFault
place_line n k fs =
    counted 3 fs (room 48 n.places (
    at 1 (part_of n.parts (field 1 fs)) (λ part.
    with (place_fields n part.0 k (field 2 fs) (field 3 fs)) (λ p.
    Ok (with_place n part.1 p)))))
