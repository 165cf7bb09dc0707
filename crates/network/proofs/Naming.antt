-- The names of counters, as records and as what they hold. Assumes nothing.
use Rattle.std.proofs.Common.{◌≡◌, List, map}
use Rattle.std.proofs.lemmas.Simd.{map-map}
use Rattle.fields.specs.Declarations.{counter_name as recordName}
use Rattle.fields.specs.declared.counter.Counter.{Counter}
use Rattle.network.specs.Lines.{counter_name}
use Rattle.network.specs.Networks.{counter_of}

pub same_names : (cs : List Counter) → map counter_name (map counter_of cs) ≡ map recordName cs
same_names = map-map counter_name counter_of
