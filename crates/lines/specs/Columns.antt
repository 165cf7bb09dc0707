-- The fields of a line, and what may be wrong with it. Assumes nothing.
use Rattle.std.specs.Prelude.{ℕ, ◌-◌, cond, List, [], length, Ok, Err, Result, ◌==◌, nat_lt, slice_index_or}
use Rattle.text.specs.declared.flaw.Flaw.{Flaw}
use Rattle.text.specs.declared.flaw.Flaw.TheVariants.{Form, Count}
use Rattle.lines.specs.declared.line_fault.LineFault.{LineFault}
use Rattle.lines.specs.declared.line_fault.LineFault.TheVariants.{Field}

-- field i of a line, counted from 1
abbrev pub field : ℕ → List (List ℕ) → List ℕ
field i fs = slice_index_or fs (i - 1) []

-- field i gives what the line goes on with, or it is what is wrong with the line
abbrev pub at : {X Y : Type 0} → ℕ → Result X Flaw → (X → Result Y LineFault) → Result Y LineFault
at i (Ok x) go = go x
at i (Err flaw) go = Err (Field i flaw)

-- what a line gives, and what the reading goes on with
abbrev pub with : {X Y : Type 0} → Result X LineFault → (X → Result Y LineFault) → Result Y LineFault
with (Ok x) go = go x
with (Err fault) go = Err fault

-- a line has just so many fields
abbrev pub counted : {Y : Type 0} → ℕ → List (List ℕ) → Result Y LineFault → Result Y LineFault
counted n fs go = cond (length fs == n) go (Err (Field 1 Form))

-- there are at most so many such lines
abbrev pub room : {X Y : Type 0} → ℕ → List X → Result Y LineFault → Result Y LineFault
room most xs go = cond (nat_lt (length xs) most) go (Err (Field 1 Count))
