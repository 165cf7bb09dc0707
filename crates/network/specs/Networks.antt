-- What a network declares. Assumes nothing.
use Rattle.std.specs.Prelude.{ℕ, List, [], ◌∷◌, ◌++◌, map, ℤ, codes, Option}
use Rattle.bounded.specs.Items.{items}
use Rattle.text.specs.Names.{letters}
use Rattle.fields.specs.declared.calls.Call.{Call}
use Rattle.fields.specs.declared.changes.Change.{Change}
use Rattle.fields.specs.declared.changes.Reset.{Reset}
use Rattle.fields.specs.declared.conditions.ClockCondition.{ClockCondition}
use Rattle.fields.specs.declared.conditions.CounterCondition.{CounterCondition}
use Rattle.fields.specs.declared.counter.Counter.{Counter as CounterRecord}
use Rattle.network.specs.declared.records.Time.{Time}
use Rattle.network.specs.declared.records.Time.TheVariants.{Fine, Whole}
use Rattle.network.specs.declared.records.Place.{Place as PlaceRecord}
use Rattle.network.specs.declared.records.Edge.{Edge as EdgeRecord}
use Rattle.network.specs.declared.records.Network.{Network as NetworkRecord}

-- the word for a kind of time
abbrev pub time_text : Time → List ℕ
time_text Fine = codes "fine"
time_text Whole = codes "whole"

-- a counter stays from low to high and begins at first
pub record Counter : Type 0 where
  pub name : List ℕ
  pub low : ℤ
  pub high : ℤ
  pub first : ℤ

-- parts, places, counters and channels are told by their place in the network, from 0; clocks by their number, from 1
pub record Place : Type 0 where
  pub part : ℕ
  pub name : List ℕ
  pub invariant : List ClockCondition
  pub line : ℕ

pub record Edge : Type 0 where
  pub part : ℕ
  pub from : ℕ
  pub to : ℕ
  pub guard : List ClockCondition
  pub condition : List CounterCondition
  pub call : Option Call
  pub resets : List Reset
  pub changes : List Change
  pub line : ℕ

-- names are rows of bytes; all lists are in the order of the file
pub record Network : Type 0 where
  pub time : Time
  pub clocks : List (List ℕ)
  pub counters : List Counter
  pub channels : List (List ℕ)
  pub parts : List (List ℕ)
  pub places : List Place
  pub edges : List Edge

-- nothing declared
abbrev pub blank : Network
blank = record { time = Fine; clocks = []; counters = []; channels = []; parts = []; places = []; edges = [] }

-- the same network with more declared
abbrev pub with_time : Network → Time → Network
with_time n t = record { time = t; clocks = n.clocks; counters = n.counters; channels = n.channels; parts = n.parts; places = n.places; edges = n.edges }

abbrev pub with_clocks : Network → List (List ℕ) → Network
with_clocks n cs = record { time = n.time; clocks = cs; counters = n.counters; channels = n.channels; parts = n.parts; places = n.places; edges = n.edges }

abbrev pub with_counters : Network → List Counter → Network
with_counters n cs = record { time = n.time; clocks = n.clocks; counters = cs; channels = n.channels; parts = n.parts; places = n.places; edges = n.edges }

abbrev pub with_channels : Network → List (List ℕ) → Network
with_channels n cs = record { time = n.time; clocks = n.clocks; counters = n.counters; channels = cs; parts = n.parts; places = n.places; edges = n.edges }

abbrev pub with_place : Network → List (List ℕ) → Place → Network
with_place n parts p = record { time = n.time; clocks = n.clocks; counters = n.counters; channels = n.channels; parts = parts; places = n.places ++ p ∷ []; edges = n.edges }

abbrev pub with_edge : Network → Edge → Network
with_edge n e = record { time = n.time; clocks = n.clocks; counters = n.counters; channels = n.channels; parts = n.parts; places = n.places; edges = n.edges ++ e ∷ [] }

abbrev pub counter_of : CounterRecord → Counter
counter_of c = record { name = letters c.name; low = c.low; high = c.high; first = c.first }

abbrev pub place_of : PlaceRecord → Place
place_of p = record { part = p.part; name = letters p.name; invariant = items p.invariant; line = p.line }

abbrev pub edge_of : EdgeRecord → Edge
edge_of e = record { part = e.part; from = e.from; to = e.to; guard = items e.guard; condition = items e.condition; call = e.call; resets = items e.resets; changes = items e.changes; line = e.line }

-- what the record of a network holds: its unused slots do not show
abbrev pub contents : NetworkRecord → Network
contents n = record {
  time = n.time;
  clocks = map letters (items n.clocks);
  counters = map counter_of (items n.counters);
  channels = map letters (items n.channels);
  parts = map letters (items n.parts);
  places = map place_of (items n.places);
  edges = map edge_of (items n.edges);
}
