use Rattle.std.proofs.Common.{◌≡◌, length}
use Rattle.network.specs.Networks.{contents}
use Rattle.show.specs.Cursors.{left, accepted}
use Rattle.show.proofs.cursor.check_acts.Given as goal

abbrev pub invariant-loop-act : goal.invariant-loop-act
invariant-loop-act l = accepted (left (contents l.network) l.cursor) ≡ accepted (left (contents l.network) l.acts)

abbrev pub decreases-loop-act : goal.decreases-loop-act
decreases-loop-act l = length l.cursor.rest.now
