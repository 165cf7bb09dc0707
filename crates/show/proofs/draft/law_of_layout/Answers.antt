use Rattle.show.proofs.Sectioning.{reading_law}
use Rattle.show.proofs.draft.law_of_layout.Goals as goal

pub returns : goal.returns
returns c = reading_law
