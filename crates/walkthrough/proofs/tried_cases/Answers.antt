use Rattle.walkthrough.proofs.Cases.{tried}
use Rattle.walkthrough.proofs.tried_cases.Goals as goal

pub returns : goal.returns
returns c = tried
