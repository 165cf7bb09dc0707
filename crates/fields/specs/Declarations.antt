-- The names of declared things. Assumes nothing.
use Rattle.std.specs.Prelude.{ℕ, List}
use Rattle.text.specs.Names.{letters}
use Rattle.fields.specs.declared.counter.Counter.{Counter}

abbrev pub counter_name : Counter → List ℕ
counter_name c = letters c.name
