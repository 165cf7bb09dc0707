-- One act more is accepted where the rest is. Assumes nothing.
use Rattle.std.proofs.Common.{◌≡◌, List, Ok, Err, Result, refl}
use Rattle.acts.specs.Acts.{Act}
use Rattle.show.specs.declared.fault.Fault.{Fault}
use Rattle.show.specs.Cursors.{accepted}
use Rattle.show.specs.Reading.{prepended}

-- an act in front does not bear on whether acts are accepted
pub accepted_prepended : (a : Act) (r : Result (List Act) Fault) → accepted (prepended a r) ≡ accepted r
accepted_prepended a (Ok more) = refl
accepted_prepended a (Err fault) = refl
