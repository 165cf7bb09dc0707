-- How a show file is laid out, as a whole, and which line of a text is the first that is not. Assumes nothing.
use Rattle.std.specs.Prelude.{◌≡◌, ℕ, zero, suc, ◌+◌, ◌<◌, ◌≤◌, true, ◌⊎◌, List, [], ◌∷◌, ◌++◌, map, length, ◌≤ℤ◌, Some, None, Ok, Err, codes, Option, Result}
use Rattle.text.specs.Bytes.{is_name}
use Rattle.text.specs.Numbers.{whole_of}
use Rattle.text.specs.Pieces.{pieces}
use Rattle.fields.specs.Items.{clock_condition}
use Rattle.fields.specs.Lists.{list_of}
use Rattle.lines.specs.Lookup.{position}
use Rattle.network.specs.declared.records.Time.{Time}
use Rattle.network.specs.declared.records.Time.TheVariants.{Fine, Whole}
use Rattle.acts.specs.Acts.{Act, word_act}
use Rattle.edges.specs.Edges.{ends_fields, edge_fields}
use Rattle.lines.specs.Columns.{field}
use Rattle.network.specs.Lines.{counter_name}
use Rattle.network.specs.Networks.{Counter, Place, Edge, Network}
use Rattle.show.specs.declared.fault.Fault.{Fault}
use Rattle.show.specs.declared.fault.Fault.TheVariants.{TooLong}
use Rattle.show.specs.Faults.{told}
use Rattle.show.specs.Reading.{Reading, reading}

-- x is in the list
abbrev pub Among : {X : Type 0} → X → List X → Type 0
Among x [] = ⊥
Among x (y ∷ ys) = (y ≡ x) ⊎ Among x ys

-- no two are the same
abbrev pub Distinct : {X : Type 0} → List X → Type 0
Distinct [] = Unit {0}
Distinct (x ∷ xs) = (Among x xs → ⊥) × Distinct xs

abbrev pub AllNames : List (List ℕ) → Type 0
AllNames [] = Unit {0}
AllNames (x ∷ xs) = (is_name x ≡ true) × AllNames xs

-- x is element i, counted from 0
abbrev pub At : {X : Type 0} → ℕ → List X → X → Type 0
At i [] x = ⊥
At zero (y ∷ ys) x = y ≡ x
At (suc i) (y ∷ ys) x = At i ys x

-- the lines of a section, from line k of the file on, each with what it declares
abbrev pub Lines : {R : Type 0} → (ℕ → List ℕ → R → Type 0) → ℕ → List (List ℕ) → List R → Type 0
Lines P k [] [] = Unit {0}
Lines P k [] (r ∷ rs) = ⊥
Lines P k (l ∷ ls) [] = ⊥
Lines P k (l ∷ ls) (r ∷ rs) = P k l r × Lines P (k + 1) ls rs

abbrev pub TimeLine : List ℕ → Time → Type 0
TimeLine l Fine = l ≡ codes "fine"
TimeLine l Whole = l ≡ codes "whole"

-- a section of names: the lines are the names
pub record Names (most : ℕ) (ls : List (List ℕ)) (names : List (List ℕ)) : Type 0 where
  pub same : ls ≡ names
  pub form : AllNames names
  pub distinct : Distinct names
  pub few : length names ≤ most

-- field i of a line
abbrev pub column : ℕ → List ℕ → List ℕ
column i l = field i (pieces 32 l)

-- `shots 0 2 0`: a name and three whole numbers
pub record CounterLine (k : ℕ) (l : List ℕ) (c : Counter) : Type 0 where
  pub count : length (pieces 32 l) ≡ 4
  pub name : column 1 l ≡ c.name
  pub form : is_name c.name ≡ true
  pub low : whole_of (column 2 l) ≡ Ok c.low
  pub high : whole_of (column 3 l) ≡ Ok c.high
  pub first : whole_of (column 4 l) ≡ Ok c.first
  pub upward : c.low ≤ℤ c.high
  pub from : c.low ≤ℤ c.first
  pub to : c.first ≤ℤ c.high

pub record Counters (k : ℕ) (ls : List (List ℕ)) (counters : List Counter) : Type 0 where
  pub lines : Lines CounterLine k ls counters
  pub distinct : Distinct (map counter_name counters)
  pub few : length counters ≤ 8

-- `rack open x<=3`: a part, a place of it, and what holds there
pub record PlaceLine (clocks : List (List ℕ)) (parts : List (List ℕ)) (k : ℕ) (l : List ℕ) (p : Place) : Type 0 where
  pub count : length (pieces 32 l) ≡ 3
  pub part : At p.part parts (column 1 l)
  pub part_form : is_name (column 1 l) ≡ true
  pub name : column 2 l ≡ p.name
  pub form : is_name p.name ≡ true
  pub invariant : list_of 4 (clock_condition clocks) (column 3 l) ≡ Ok p.invariant
  pub line : p.line ≡ k

abbrev added : List (List ℕ) → List ℕ → Option ℕ → List (List ℕ)
added seen x (Some i) = seen
added seen x None = seen ++ x ∷ []

-- each once, in the order in which they are first met, after those that are seen
abbrev pub onces : List (List ℕ) → List (List ℕ) → List (List ℕ)
onces seen [] = seen
onces seen (x ∷ xs) = onces (added seen x (position 0 x seen)) xs

abbrev pub place_key : Place → ℕ × List ℕ
place_key p = (p.part, p.name)

pub record Places (clocks : List (List ℕ)) (k : ℕ) (ls : List (List ℕ)) (parts : List (List ℕ)) (places : List Place) : Type 0 where
  pub lines : Lines (PlaceLine clocks parts) k ls places
  pub parts_are : parts ≡ onces [] (map (column 1) ls)
  pub few_parts : length parts ≤ 6
  pub distinct : Distinct (map place_key places)
  pub few : length places ≤ 48

-- `desk live live x>=2,x<3 shots<2 - x shots+=1`
pub record EdgeLine (n : Network) (k : ℕ) (l : List ℕ) (e : Edge) : Type 0 where
  pub count : length (pieces 32 l) ≡ 8
  pub ends : ends_fields n (column 1 l) (column 2 l) (column 3 l) ≡ Ok (e.part, e.from, e.to)
  pub labels : edge_fields n k (e.part, e.from, e.to) (column 4 l) (column 5 l) (column 6 l) (column 7 l) (column 8 l) ≡ Ok e

pub record Edges (n : Network) (k : ℕ) (ls : List (List ℕ)) (edges : List Edge) : Type 0 where
  pub lines : Lines (EdgeLine n) k ls edges
  pub few : length edges ≤ 96

-- `fire 3 -`
pub record ActLine (n : Network) (k : ℕ) (l : List ℕ) (a : Act) : Type 0 where
  pub count : length (pieces 32 l) ≡ 3
  pub act : word_act n (column 1 l) (column 2 l) (column 3 l) ≡ Ok a

pub record Acts (n : Network) (k : ℕ) (ls : List (List ℕ)) (acts : List Act) : Type 0 where
  pub lines : Lines (ActLine n) k ls acts
  pub few : length acts ≤ 4096

-- the lines of a file that is laid out as the format says, and what they say: each section is a names line and lines of values
pub record LaidOut (ls : List (List ℕ)) (r : Reading) : Type 0 where
  pub time : List ℕ
  pub clocks : List (List ℕ)
  pub counters : List (List ℕ)
  pub channels : List (List ℕ)
  pub places : List (List ℕ)
  pub edges : List (List ℕ)
  pub acts : List (List ℕ)
  pub sections : ls ≡ codes "time" ∷ time ∷ codes "clock" ∷ (clocks ++ codes "counter low high first" ∷ (counters ++ codes "channel" ∷ (channels ++ codes "part place when" ∷ (places ++ codes "part from to when if call reset do" ∷ (edges ++ codes "act one two" ∷ acts)))))
  pub time_is : TimeLine time r.network.time
  pub clocks_are : Names 7 clocks r.network.clocks
  pub counters_are : Counters (5 + length clocks) counters r.network.counters
  pub channels_are : Names 8 channels r.network.channels
  pub places_are : Places r.network.clocks (7 + length clocks + length counters + length channels) places r.network.parts r.network.places
  pub edges_are : Edges r.network (8 + length clocks + length counters + length channels + length places) edges r.network.edges
  pub act_line : r.act_line ≡ 8 + length clocks + length counters + length channels + length places + length edges
  pub acts_are : Acts r.network (9 + length clocks + length counters + length channels + length places + length edges) acts r.acts

-- the text is these lines, each ended by LF
abbrev pub Written : List ℕ → List (List ℕ) → Type 0
Written text ls = pieces 10 text ≡ ls ++ [] ∷ []

-- the first k lines of the text, each ended by LF, begin a file that is laid out as the format says
pub record Begins (k : ℕ) (text : List ℕ) : Type 0 where
  pub front : List (List ℕ)
  pub first : List ℕ
  pub others : List (List ℕ)
  pub here : pieces 10 text ≡ front ++ first ∷ others
  pub size : length front ≡ k
  pub more : List (List ℕ)
  pub says : Reading
  pub whole : LaidOut (front ++ more) says

-- a reading is accepted for what the lines say; a refusal names the first line that is not as the format says
abbrev pub Outcome : List ℕ → Result Reading Fault → Type 0
Outcome text (Ok r) = (length text ≤ 60000) × (ls : List (List ℕ)) × Written text ls × LaidOut ls r
Outcome text (Err f) = ((60000 < length text) × (f ≡ TooLong)) ⊎ ((length text ≤ 60000) × (k : ℕ) × ((told f).1.line ≡ k + 1) × Begins k text × (Begins (k + 1) text → ⊥))

-- reading accepts just the texts of at most 60,000 bytes that are laid out as the format says, for what they say
pub record ReadingLaw : Type 0 where
  pub outcome : (text : List ℕ) → Outcome text (reading text)
  pub accepts : (text : List ℕ) (ls : List (List ℕ)) (r : Reading) → length text ≤ 60000 → Written text ls → LaidOut ls r → reading text ≡ Ok r
