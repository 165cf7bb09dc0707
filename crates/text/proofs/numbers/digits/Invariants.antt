use Rattle.std.proofs.Common.{◌≡◌, ◌^◌, ◌<◌, true, take}
use Rattle.text.specs.Numbers.{all_digits, number_on}
use Rattle.text.proofs.numbers.digits.Given as goal

abbrev pub invariant-loop-b : goal.invariant-loop-b
invariant-loop-b l = (all_digits (take l.b-index l.s) ≡ true) × (l.number ≡ number_on 0 (take l.b-index l.s)) × (l.number < 10 ^ l.b-index)
