-- The lines of one section, one by one. Assumes nothing.
use Rattle.std.proofs.Common.{ℕ, ◌+◌, List, [], ◌∷◌, Ok, Result}
use Rattle.text.specs.Pieces.{pieces}
use Rattle.lines.specs.declared.line_fault.LineFault.{LineFault}
use Rattle.lines.specs.Columns.{with}
use Rattle.network.specs.Networks.{Network, Place, Edge}
use Rattle.show.specs.declared.section.Section.{Section}
use Rattle.show.specs.Sections.{value_line}

-- one line of values in a section, line k of the file: the network with it
abbrev pub step : Section → ℕ → Network → List ℕ → Result Network LineFault
step s k n l = with (value_line n s k (pieces 32 l)) (λ r. Ok r.0)

-- lines of values, from line k of the file on
abbrev pub folded : Section → ℕ → Network → List (List ℕ) → Result Network LineFault
folded s k n [] = Ok n
folded s k n (l ∷ ls) = with (step s k n l) (λ m. folded s (k + 1) m ls)

-- the network with these parts and places
abbrev pub with_places : Network → List (List ℕ) → List Place → Network
with_places n parts places = record { time = n.time; clocks = n.clocks; counters = n.counters; channels = n.channels; parts = parts; places = places; edges = n.edges }

-- the network with these edges
abbrev pub with_edges : Network → List Edge → Network
with_edges n edges = record { time = n.time; clocks = n.clocks; counters = n.counters; channels = n.channels; parts = n.parts; places = n.places; edges = edges }

-- each follows from the other
abbrev pub Both : Type 0 → Type 0 → Type 0
Both A B = (A → B) × (B → A)
