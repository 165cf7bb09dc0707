-- What a text is read as, by the outcome of its sections and its acts. Assumes nothing.
use Rattle.std.proofs.Common.{◌≡◌, ℕ, ◌+◌, ◌<◌, ◌≤◌, List, [], ◌∷◌, length, Ok, Err, Result, refl, ◌∙◌, arith}
use Rattle.std.proofs.lemmas.Bool.{lt-ltb, le-ltb, cond-true, cond-false}
use Rattle.text.specs.Pieces.{pieces}
use Rattle.acts.specs.Acts.{Act}
use Rattle.network.specs.Networks.{Network, blank}
use Rattle.show.specs.declared.fault.Fault.{Fault}
use Rattle.show.specs.declared.fault.Fault.TheVariants.{TooLong}
use Rattle.show.specs.declared.fault.Spot.{Spot}
use Rattle.show.specs.declared.section.Section.TheVariants.{Opening}
use Rattle.show.specs.Cursors.{accepted}
use Rattle.show.specs.Reading.{reading, read_pieces, sections_on, acts_on, sealing}

-- a text that is too long is refused for it
pub too_long : (text : List ℕ) → 60000 < length text → reading text ≡ Err TooLong
unfolding reading
too_long text h = cond-true _ _ _ (lt-ltb _ _ h)

-- another is read by its pieces
pub by_pieces : (text : List ℕ) → length text ≤ 60000 → reading text ≡ read_pieces (pieces 10 text)
unfolding reading
by_pieces text h = cond-false _ _ _ (le-ltb _ _ h)

module _ (text : List ℕ) (short : length text ≤ 60000) where
  -- a text whose sections are refused
  pub bad_sections : (f : Fault) → sections_on blank Opening 1 (pieces 10 text) ≡ Err f → reading text ≡ Err f
  bad_sections f e = by_pieces text short ∙ rw e refl

  module _ (n : Network) (k : ℕ) (ps : List (List ℕ)) (e : sections_on blank Opening 1 (pieces 10 text) ≡ Ok (n, k, ps)) where
    -- a text whose acts are refused
    pub bad_acts : (f : Fault) → acts_on n (k + 1) 0 ps ≡ Err f → reading text ≡ Err f
    bad_acts f b = by_pieces text short ∙ rw (e, b) refl

    -- a text that is accepted
    pub good_acts : (more : List Act) → acts_on n (k + 1) 0 ps ≡ Ok more → reading text ≡ Ok (record { network = n; act_line = k; acts = more })
    good_acts more b = by_pieces text short ∙ rw (e, b) refl

-- acts that are all good
pub all_good : (r : Result (List Act) Fault) → accepted r ≡ Ok tt → (more : List Act) × (r ≡ Ok more)
all_good (Ok more) h = (more, refl)
all_good (Err f) h = absurd (grind arith)

-- acts that are not
pub one_bad : (r : Result (List Act) Fault) (f : Fault) → accepted r ≡ Err f → r ≡ Err f
one_bad (Ok more) f h = absurd (grind arith)
one_bad (Err e) f h = grind arith

-- a network is sealed if it has a part
pub sealed : (n : Network) (acts : Spot) → 0 < length n.parts → sealing n acts ≡ Ok n
sealed n acts h = go n.parts refl h where
  go : (ps : List (List ℕ)) → n.parts ≡ ps → 0 < length ps → sealing n acts ≡ Ok n
  go [] e l = absurd (omega arith)
  go (p ∷ ps) e l = rw e refl
