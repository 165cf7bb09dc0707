-- The acts of a run, line by line. Assumes nothing.
use Rattle.std.specs.Prelude.{ℕ, cond, List, ℤ, Ok, Err, codes, Result, nat_lt}
use Rattle.std.specs.Str.{bytes_eq}
use Rattle.limits.specs.declared.comparison.Comparison.{Comparison}
use Rattle.text.specs.declared.flaw.Flaw.{Flaw}
use Rattle.text.specs.declared.flaw.Flaw.TheVariants.{Form, Count}
use Rattle.text.specs.Numbers.{whole_of}
use Rattle.text.specs.Pieces.{name_front}
use Rattle.fields.specs.Items.{clock_condition}
use Rattle.lines.specs.Lookup.{looked_up}
use Rattle.acts.specs.declared.act.Act.{Act as ActRecord}
use Rattle.acts.specs.declared.act.Act.TheVariants.{Wait, Fire, Meet, Pin, At}
use Rattle.lines.specs.declared.line_fault.LineFault.{LineFault}
use Rattle.lines.specs.declared.line_fault.LineFault.TheVariants.{Field}
use Rattle.lines.specs.Columns.{field, at, counted}
use Rattle.network.specs.Lines.{known_place}
use Rattle.network.specs.Networks.{Network}

-- an act: edges by the number that the line gives, clocks, parts and places by name
pub data Act : Type 0 where
  wait : Act
  fire : ℤ → Act
  meet : ℤ → ℤ → Act
  pin : List ℕ → Comparison → ℕ → Act
  at_place : List ℕ → List ℕ → Act

-- what an act says, wherever the bytes of its names lie
abbrev pub act_of : ActRecord → Act
act_of Wait = wait
act_of (Fire edge) = fire edge
act_of (Meet sender receiver) = meet sender receiver
act_of (Pin clock comparison ticks) = pin clock.now comparison ticks
act_of (At part place) = at_place part.now place.now

-- `-`
abbrev pub none : List ℕ → Result (Unit {0}) Flaw
none bs = cond (bytes_eq bs (codes "-")) (Ok tt) (Err Form)

-- `wait - -`
abbrev pub wait_act : List ℕ → List ℕ → Result Act LineFault
wait_act one two = at 2 (none one) (λ _. at 3 (none two) (λ _. Ok wait))

-- `fire 3 -`: a whole number, which is looked up only when the act is tried
abbrev pub fire_act : List ℕ → List ℕ → Result Act LineFault
fire_act one two = at 2 (whole_of one) (λ edge. at 3 (none two) (λ _. Ok (fire edge)))

-- `meet 1 2`: the sending edge and the receiving edge
abbrev pub meet_act : List ℕ → List ℕ → Result Act LineFault
meet_act one two = at 2 (whole_of one) (λ sender. at 3 (whole_of two) (λ receiver. Ok (meet sender receiver)))

-- `pin x<=2 -`: one condition on a clock
abbrev pub pin_act : Network → List ℕ → List ℕ → Result Act LineFault
pin_act n one two = at 2 (clock_condition n.clocks one) (λ c. at 3 (none two) (λ _. Ok (pin (name_front one) c.comparison c.ticks)))

-- `at rack open`: a part and a place of it
abbrev pub place_act : Network → List ℕ → List ℕ → Result Act LineFault
place_act n one two = at 2 (looked_up n.parts one) (λ part. at 3 (known_place n.places part two) (λ _. Ok (at_place one two)))

abbrev pub word_act : Network → List ℕ → List ℕ → List ℕ → Result Act LineFault
word_act n word one two =
    cond (bytes_eq word (codes "wait")) (wait_act one two) (
    cond (bytes_eq word (codes "fire")) (fire_act one two) (
    cond (bytes_eq word (codes "meet")) (meet_act one two) (
    cond (bytes_eq word (codes "pin")) (pin_act n one two) (
    cond (bytes_eq word (codes "at")) (place_act n one two) (
    Err (Field 1 Form))))))

-- the section `act one two`, after so many acts; at most 4,096
abbrev pub act_line : Network → ℕ → List (List ℕ) → Result Act LineFault
act_line n count fs = counted 3 fs (cond (nat_lt count 4096) (word_act n (field 1 fs) (field 2 fs) (field 3 fs)) (Err (Field 1 Count)))
