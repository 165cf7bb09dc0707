-- What a cursor over acts has left. Assumes nothing.
use Rattle.std.specs.Prelude.{List, Ok, Err, Result}
use Rattle.text.specs.Pieces.{pieces}
use Rattle.acts.specs.Acts.{Act}
use Rattle.network.specs.Networks.{Network}
use Rattle.show.specs.declared.act_lines.Acts.{Acts}
use Rattle.show.specs.declared.fault.Fault.{Fault}
use Rattle.show.specs.Reading.{acts_on}

-- the acts that are left
abbrev pub left : Network → Acts → Result (List Act) Fault
left n a = acts_on n a.first a.count (pieces 10 a.rest.now)

-- whether they are all good
abbrev pub accepted : Result (List Act) Fault → Result (Unit {0}) Fault
accepted (Ok more) = Ok tt
accepted (Err fault) = Err fault
