-- What a draft holds. Assumes nothing.
use Rattle.std.specs.Prelude.{◌≡◌, ℕ, ◌+◌, List, Ok}
use Rattle.network.specs.Networks.{contents, blank}
use Rattle.text.specs.Pieces.{pieces}
use Rattle.show.specs.declared.act_lines.Acts.{Acts}
use Rattle.show.specs.declared.draft.Draft.{Draft}
use Rattle.show.specs.declared.section.Section.TheVariants.{Opening}
use Rattle.show.specs.Cursors.{left}
use Rattle.show.specs.Faults.{spot}
use Rattle.show.specs.Reading.{Reading, reading, sections_on}

-- nothing is declared, and there is no section of acts
abbrev pub Blank : Draft → Type 0
Blank d = (contents d.network ≡ blank) × (d.acts ≡ spot 0 0)

-- the draft and the cursor hold what the text says
pub record Holds (text : List ℕ) (d : Draft) (acts : Acts) : Type 0 where
  pub says : Reading
  pub read : reading text ≡ Ok says
  pub network : contents d.network ≡ says.network
  pub act_line : d.acts ≡ spot says.act_line 1
  -- the cursor stands behind the line `act one two`
  pub behind : sections_on blank Opening 1 (pieces 10 text) ≡ Ok (says.network, says.act_line, pieces 10 acts.rest.now)
  pub acts_first : acts.first ≡ says.act_line + 1
  pub acts_count : acts.count ≡ 0
  pub acts_left : left (contents d.network) acts ≡ Ok says.acts
