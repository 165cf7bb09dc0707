-- The number and the spot of each refusal of reading and sealing. Assumes nothing.
use Rattle.std.specs.Prelude.{ℕ, List, [], ◌∷◌, ◌++◌, Some, None, codes, Option}
use Rattle.std.specs.Fmt.{decimal}
use Rattle.text.specs.declared.flaw.Flaw.TheVariants.{Form, Name, Range, Count}
use Rattle.lines.specs.declared.line_fault.LineFault.{LineFault}
use Rattle.lines.specs.declared.line_fault.LineFault.TheVariants as Line
use Rattle.show.specs.declared.fault.Fault.{Fault}
use Rattle.show.specs.declared.fault.Fault.TheVariants.{TooLong, Disorder, Field, NoPart}
use Rattle.show.specs.declared.fault.Spot.{Spot}

-- a line and a field of it
abbrev pub spot : ℕ → ℕ → Spot
spot line field = record { line = line; field = field }

-- how it is written
abbrev pub spot_text : Spot → List ℕ
spot_text s = codes "line " ++ decimal s.line ++ codes " field " ++ decimal s.field

abbrev pub told : Fault → ℕ × Spot
told TooLong = (1, spot 0 0)
told (Disorder line) = (2, spot line 1)
told (Field line field Form) = (3, spot line field)
told (Field line field Name) = (4, spot line field)
told (Field line field Range) = (5, spot line field)
told (Field line field Count) = (6, spot line field)
told (NoPart acts) = (7, acts)

-- how a refusal is written
abbrev pub fault_text : Fault → List ℕ
fault_text f = decimal (told f).0 ++ codes " at " ++ spot_text (told f).1

-- what is wrong with a line, told of line k
abbrev pub on_line : ℕ → LineFault → Fault
on_line k Line.Disorder = Disorder k
on_line k (Line.Field i flaw) = Field k i flaw

-- what is wrong with line k where no LF ends it, if anything stands there
abbrev pub without_end : ℕ → List ℕ → Option Fault
without_end k [] = None
without_end k (b ∷ bs) = Some (Field k 1 Form)
