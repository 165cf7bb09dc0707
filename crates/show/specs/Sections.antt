-- The sections of a show file, and what a line means in each. Assumes nothing.
use Rattle.std.specs.Prelude.{ℕ, cond, List, Some, None, Ok, Err, codes, Option, Result}
use Rattle.std.specs.Str.{bytes_eq}
use Rattle.text.specs.declared.flaw.Flaw.TheVariants.{Count}
use Rattle.text.specs.Pieces.{pieces}
use Rattle.lines.specs.declared.line_fault.LineFault.{LineFault}
use Rattle.lines.specs.declared.line_fault.LineFault.TheVariants.{Disorder, Field}
use Rattle.edges.specs.Edges.{edge_line}
use Rattle.lines.specs.Columns.{with, counted}
use Rattle.network.specs.Lines.{time_line, name_line, counter_line, place_line}
use Rattle.network.specs.Networks.{Network, with_time, with_clocks, with_counters, with_channels}
use Rattle.show.specs.declared.section.Section.{Section}
use Rattle.show.specs.declared.section.Section.TheVariants.{Opening, Time, Timed, Clocks, Counters, Channels, Places, Edges}

-- the names line that is next due
abbrev pub due : Section → List ℕ
due Opening = codes "time"
due Time = codes "clock"
due Timed = codes "clock"
due Clocks = codes "counter low high first"
due Counters = codes "channel"
due Channels = codes "part place when"
due Places = codes "part from to when if call reset do"
due Edges = codes "act one two"

-- the section that it opens; none where the run begins; `clock` may not come before a time line
abbrev pub next : Section → Result (Option Section) LineFault
next Opening = Ok (Some Time)
next Time = Err Disorder
next Timed = Ok (Some Clocks)
next Clocks = Ok (Some Counters)
next Counters = Ok (Some Channels)
next Channels = Ok (Some Places)
next Places = Ok (Some Edges)
next Edges = Ok None

-- a line of values, line k of the file: the network with it, and the section then
abbrev pub value_line : Network → Section → ℕ → List (List ℕ) → Result (Network × Option Section) LineFault
value_line n Opening k fs = Err Disorder
value_line n Time k fs = with (time_line fs) (λ t. Ok (with_time n t, Some Timed))
value_line n Timed k fs = counted 1 fs (Err (Field 1 Count))
value_line n Clocks k fs = with (name_line 7 n.clocks fs) (λ names. Ok (with_clocks n names, Some Clocks))
value_line n Counters k fs = with (counter_line n.counters fs) (λ counters. Ok (with_counters n counters, Some Counters))
value_line n Channels k fs = with (name_line 8 n.channels fs) (λ names. Ok (with_channels n names, Some Channels))
value_line n Places k fs = with (place_line n k fs) (λ m. Ok (m, Some Places))
value_line n Edges k fs = with (edge_line n k fs) (λ m. Ok (m, Some Edges))

-- a line is a names line only if it equals the one next due
abbrev pub line_of : Network → Section → ℕ → List ℕ → Result (Network × Option Section) LineFault
line_of n s k l = cond (bytes_eq l (due s)) (with (next s) (λ t. Ok (n, t))) (value_line n s k (pieces 32 l))
