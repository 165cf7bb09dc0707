-- The bytes of a name. Assumes nothing.
use Rattle.std.specs.Prelude.{ℕ, List}
use Rattle.text.specs.declared.name.Name.{Name}
use Rattle.bounded.specs.Items.{items}

abbrev pub letters : Name → List ℕ
letters n = items n.bytes
