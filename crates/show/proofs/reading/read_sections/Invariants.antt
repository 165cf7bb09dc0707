use Rattle.std.proofs.Common.{◌≡◌, ◌+◌, ◌≤◌, length}
use Rattle.text.specs.Pieces.{pieces}
use Rattle.network.specs.Networks.{contents}
use Rattle.show.specs.declared.section.Section.TheVariants.{Opening}
use Rattle.show.specs.Reading.{sections_on}
use Rattle.show.proofs.reading.read_sections.Given as goal

abbrev pub invariant-loop-this : goal.invariant-loop-this
invariant-loop-this l = (sections_on (contents l.network) l.section l.line (pieces 10 l.rest) ≡ sections_on (contents l.initial.network) Opening 1 (pieces 10 l.text)) × (l.line + length l.rest ≤ length l.text + 1)

abbrev pub decreases-loop-this : goal.decreases-loop-this
decreases-loop-this l = length l.rest
