-- Reading a show file. Assumes nothing.
use Rattle.std.specs.Prelude.{ℕ, ◌+◌, cond, List, [], ◌∷◌, length, Some, None, Ok, Err, Option, Result, nat_lt}
use Rattle.text.specs.declared.flaw.Flaw.TheVariants.{Form}
use Rattle.text.specs.Pieces.{pieces}
use Rattle.lines.specs.declared.line_fault.LineFault.{LineFault}
use Rattle.network.specs.Networks.{Network, blank}
use Rattle.acts.specs.Acts.{Act, act_line}
use Rattle.show.specs.declared.fault.Fault.{Fault}
use Rattle.show.specs.declared.fault.Fault.TheVariants.{TooLong, Disorder, Field, NoPart}
use Rattle.show.specs.declared.fault.Spot.{Spot}
use Rattle.show.specs.declared.section.Section.{Section}
use Rattle.show.specs.declared.section.Section.TheVariants.{Opening}
use Rattle.show.specs.Faults.{on_line}
use Rattle.show.specs.Sections.{line_of}

-- what line k gives, and what the reading goes on with
abbrev pub lined : {X Y : Type 0} → ℕ → Result X LineFault → (X → Result Y Fault) → Result Y Fault
lined k (Ok x) go = go x
lined k (Err fault) go = Err (on_line k fault)

-- line k where no LF ends it: nothing is left, or it is a line without LF
abbrev pub ending : {Y : Type 0} → ℕ → List ℕ → Result Y Fault → Result Y Fault
ending k [] go = go
ending k (b ∷ bs) go = Err (Field k 1 Form)

-- A text is given as its pieces between LFs. There is always one: the last piece stands behind the last LF and is no line.

-- what follows a line: the next section, or the acts
abbrev go_on : Option Section → (Section → Result (Network × ℕ × List (List ℕ)) Fault) → Result (Network × ℕ × List (List ℕ)) Fault → Result (Network × ℕ × List (List ℕ)) Fault
go_on (Some s) more done = more s
go_on None more done = done

-- the lines of the show from line k on, in a section: the network, the line `act one two`, and the pieces behind it
abbrev pub sections_on : Network → Section → ℕ → List (List ℕ) → Result (Network × ℕ × List (List ℕ)) Fault
sections_on n s k [] = Err (Disorder k)
sections_on n s k (l ∷ []) = ending k l (Err (Disorder k))
sections_on n s k (l ∷ p ∷ ps) = lined k (line_of n s k l) (λ r. go_on r.1 (λ t. sections_on r.0 t (k + 1) (p ∷ ps)) (Ok (r.0, k, p ∷ ps)))

-- one act more in front
abbrev pub prepended : Act → Result (List Act) Fault → Result (List Act) Fault
prepended a (Ok more) = Ok (a ∷ more)
prepended a (Err fault) = Err fault

-- the acts from act `count` on, counted from 0; act 0 stands on line `first`
abbrev pub acts_on : Network → ℕ → ℕ → List (List ℕ) → Result (List Act) Fault
acts_on n first count [] = Ok []
acts_on n first count (l ∷ []) = ending (first + count) l (Ok [])
acts_on n first count (l ∷ p ∷ ps) = lined (first + count) (act_line n count (pieces 32 l)) (λ a. prepended a (acts_on n first (count + 1) (p ∷ ps)))

-- what a file says: the network, the line `act one two`, and the acts
pub record Reading : Type 0 where
  pub network : Network
  pub act_line : ℕ
  pub acts : List Act

-- the acts beside the network
abbrev pub with_acts : Network → ℕ → Result (List Act) Fault → Result Reading Fault
with_acts n k (Ok more) = Ok (record { network = n; act_line = k; acts = more })
with_acts n k (Err fault) = Err fault

abbrev pub acts_behind : Result (Network × ℕ × List (List ℕ)) Fault → Result Reading Fault
acts_behind (Ok (n, k, ps)) = with_acts n k (acts_on n (k + 1) 0 ps)
acts_behind (Err fault) = Err fault

-- the pieces of a text between its LFs, line by line
abbrev pub read_pieces : List (List ℕ) → Result Reading Fault
read_pieces ps = acts_behind (sections_on blank Opening 1 ps)

-- a text of at most 60,000 bytes; shut, so that goals keep its name
unfoldable pub reading : List ℕ → Result Reading Fault
reading text = cond (nat_lt 60000 (length text)) (Err TooLong) (read_pieces (pieces 10 text))

abbrev parted : Network → Spot → List (List ℕ) → Result Network Fault
parted n acts [] = Err (NoPart acts)
parted n acts (p ∷ ps) = Ok n

-- a network with a part becomes a show; else the refusal lies at the line `act one two`
abbrev pub sealing : Network → Spot → Result Network Fault
sealing n acts = parted n acts n.parts
