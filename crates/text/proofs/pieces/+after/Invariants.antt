use Rattle.std.proofs.Common.{length}
use Rattle.text.proofs.pieces.+after.Given as goal

abbrev pub decreases-after : goal.decreases-after
decreases-after l = length l.s.now
