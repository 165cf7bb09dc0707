-- The lines that declare edges. Assumes nothing.
use Rattle.std.specs.Prelude.{ℕ, List, [], ◌∷◌, map, Ok, Result}
use Rattle.fields.specs.Items.{clock_condition, counter_condition, change, reset, call_of}
use Rattle.fields.specs.Lists.{list_of}
use Rattle.lines.specs.declared.line_fault.LineFault.{LineFault}
use Rattle.lines.specs.Columns.{field, at, with, counted, room}
use Rattle.lines.specs.Lookup.{looked_up}
use Rattle.network.specs.Lines.{known_place, counter_name}
use Rattle.network.specs.Networks.{Edge, Network, with_edge}
use Rattle.edges.specs.declared.columns.Columns.{Columns}

-- the part of an edge and the places that it leads from and to
abbrev pub ends_fields : Network → List ℕ → List ℕ → List ℕ → Result (ℕ × ℕ × ℕ) LineFault
ends_fields n f1 f2 f3 =
    at 1 (looked_up n.parts f1) (λ part.
    at 2 (known_place n.places part f2) (λ from.
    at 3 (known_place n.places part f3) (λ to.
    Ok (part, from, to))))

-- an edge by the fields of its line, line k of the file
abbrev pub edge_fields : Network → ℕ → (ℕ × ℕ × ℕ) → List ℕ → List ℕ → List ℕ → List ℕ → List ℕ → Result Edge LineFault
edge_fields n k ends f4 f5 f6 f7 f8 =
    at 4 (list_of 4 (clock_condition n.clocks) f4) (λ guard.
    at 5 (list_of 4 (counter_condition (map counter_name n.counters)) f5) (λ condition.
    at 6 (call_of n.channels f6) (λ call.
    at 7 (list_of 7 (reset n.clocks) f7) (λ resets.
    at 8 (list_of 4 (change (map counter_name n.counters)) f8) (λ changes.
    Ok (record { part = ends.0; from = ends.1; to = ends.2; guard = guard; condition = condition; call = call; resets = resets; changes = changes; line = k }))))))

-- the fields of a line, in their order
abbrev pub fields_of : Columns → List (List ℕ)
fields_of c = c.part.now ∷ c.from.now ∷ c.to.now ∷ c.guard.now ∷ c.condition.now ∷ c.call.now ∷ c.resets.now ∷ c.changes.now ∷ []

-- an edge by all fields of its line
abbrev pub edge_of_fields : Network → ℕ → List (List ℕ) → Result Edge LineFault
edge_of_fields n k fs =
    with (ends_fields n (field 1 fs) (field 2 fs) (field 3 fs)) (λ ends.
    edge_fields n k ends (field 4 fs) (field 5 fs) (field 6 fs) (field 7 fs) (field 8 fs))

-- the section `part from to when if call reset do`, line k of the file
abbrev pub edge_line : Network → ℕ → List (List ℕ) → Result Network LineFault
edge_line n k fs =
    counted 8 fs (room 96 n.edges (
    with (edge_of_fields n k fs) (λ e.
    Ok (with_edge n e))))
