-- The items of fields: conditions, changes, resets and calls. Assumes nothing.
use Rattle.std.specs.Prelude.{ℕ, ◌+◌, cond, List, Some, None, Ok, Err, codes, Option, Result}
use Rattle.std.specs.Str.{bytes_eq}
use Rattle.text.specs.declared.flaw.Flaw.{Flaw}
use Rattle.text.specs.declared.flaw.Flaw.TheVariants.{Form, Name, Range, Count}
use Rattle.text.specs.Bytes.{is_name}
use Rattle.text.specs.Numbers.{time_of, whole_of}
use Rattle.text.specs.Pieces.{after, name_front, name_back}
use Rattle.fields.specs.declared.calls.Call.{Call}
use Rattle.fields.specs.declared.calls.Direction.{Direction}
use Rattle.fields.specs.declared.calls.Direction.TheVariants.{Send, Receive}
use Rattle.fields.specs.declared.changes.Change.{Change}
use Rattle.fields.specs.declared.changes.Reset.{Reset}
use Rattle.fields.specs.declared.changes.Update.{Update}
use Rattle.fields.specs.declared.changes.Update.TheVariants.{Set, Add}
use Rattle.fields.specs.declared.conditions.ClockCondition.{ClockCondition}
use Rattle.fields.specs.declared.conditions.CounterCondition.{CounterCondition}
use Rattle.fields.specs.declared.relation.Relation.{Relation}
use Rattle.fields.specs.declared.relation.Relation.TheVariants.{Ordered, Equal}
use Rattle.lines.specs.Lookup.{position, known, looked_up}
use Rattle.fields.specs.Relations.{relation_front}

-- a good reading, turned into something else
abbrev pub on_good : {X Y : Type 0} → (X → Y) → Result X Flaw → Result Y Flaw
on_good f (Ok x) = Ok (f x)
on_good f (Err e) = Err e

-- the place of an item's name and its value: the form is asked first, then the name, then the range
abbrev pub named : {X : Type 0} → Option ℕ → Result X Flaw → Result (ℕ × X) Flaw
named (Some k) (Ok x) = Ok (k, x)
named None (Ok x) = Err Name
named (Some k) (Err Form) = Err Form
named None (Err Form) = Err Form
named (Some k) (Err Name) = Err Name
named None (Err Name) = Err Name
named (Some k) (Err Range) = Err Range
named None (Err Range) = Err Name
named (Some k) (Err Count) = Err Count
named None (Err Count) = Err Name

-- an item begins with a name; whatever else it has is read behind that
abbrev pub behind_name : {X : Type 0} → List ℕ → Result X Flaw → Result X Flaw
behind_name bs r = cond (is_name (name_front bs)) r (Err Form)

-- clocks are numbered from 1, as in a table of readings
abbrev clock_test : Option ℕ → Option (Relation × List ℕ) → Result ClockCondition Flaw
clock_test k None = Err Form
clock_test k (Some (Equal, value)) = Err Form
clock_test k (Some (Ordered c, value)) = on_good (λ p. record { clock = p.0 + 1; comparison = c; ticks = p.1 }) (named k (time_of value))

-- a clock, `<`, `<=`, `>` or `>=`, and a time
abbrev pub clock_condition : List (List ℕ) → List ℕ → Result ClockCondition Flaw
clock_condition clocks bs = behind_name bs (clock_test (position 0 (name_front bs) clocks) (relation_front (name_back bs)))

abbrev counter_test : Option ℕ → Option (Relation × List ℕ) → Result CounterCondition Flaw
counter_test k None = Err Form
counter_test k (Some p) = on_good (λ q. record { counter = q.0; relation = p.0; number = q.1 }) (named k (whole_of p.1))

-- a counter, `<`, `<=`, `>`, `>=` or `=`, and a whole number
abbrev pub counter_condition : List (List ℕ) → List ℕ → Result CounterCondition Flaw
counter_condition counters bs = behind_name bs (counter_test (position 0 (name_front bs) counters) (relation_front (name_back bs)))

abbrev updated : Option (List ℕ) → Option (List ℕ) → Result Update Flaw
updated (Some value) add = on_good Set (whole_of value)
updated None (Some value) = on_good Add (whole_of value)
updated None None = Err Form

-- `:=` or `+=`, and a whole number
abbrev pub update_of : List ℕ → Result Update Flaw
update_of bs = updated (after (codes ":=") bs) (after (codes "+=") bs)

-- a counter and what is done to it
abbrev pub change : List (List ℕ) → List ℕ → Result Change Flaw
change counters bs = behind_name bs (on_good (λ p. record { counter = p.0; update = p.1 }) (named (position 0 (name_front bs) counters) (update_of (name_back bs))))

-- a clock
abbrev pub reset : List (List ℕ) → List ℕ → Result Reset Flaw
reset clocks bs = on_good (λ k. record { clock = k + 1 }) (looked_up clocks bs)

abbrev pub direction_of : List ℕ → Option Direction
direction_of bs = cond (bytes_eq bs (codes "!")) (Some Send) (cond (bytes_eq bs (codes "?")) (Some Receive) None)

abbrev directed : Option ℕ → Option Direction → Result (Option Call) Flaw
directed k None = Err Form
directed k (Some d) = on_good (λ c. Some (record { channel = c; direction = d })) (known k)

-- `-`, or one channel with `!` or `?`
abbrev pub call_of : List (List ℕ) → List ℕ → Result (Option Call) Flaw
call_of channels bs = cond (bytes_eq bs (codes "-")) (Ok None) (behind_name bs (directed (position 0 (name_front bs) channels) (direction_of (name_back bs))))
