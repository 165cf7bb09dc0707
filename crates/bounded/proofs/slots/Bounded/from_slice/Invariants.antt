use Rattle.std.proofs.Common.{◌≡◌, take}
use Rattle.bounded.specs.Items.{items}
use Rattle.bounded.proofs.slots.Bounded.from_slice.Given as goal

abbrev pub invariant-loop-x : goal.invariant-loop-x
invariant-loop-x g l = items l.out ≡ take l.x-index l.s
