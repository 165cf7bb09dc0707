use Rattle.std.proofs.Common.{◌≡◌, ◌+◌, ◌≤◌, length, Ok, sym, refl, rules}
use Rattle.std.proofs.lemmas.Result.{err_from_is_err_and}
use Rattle.text.specs.Pieces.{pieces}
use Rattle.network.specs.Networks.{contents, blank}
use Rattle.show.specs.declared.section.Section.TheVariants.{Opening}
use Rattle.show.specs.Drafts.{Holds}
use Rattle.show.specs.Reading.{sections_on, acts_on}
use Rattle.show.proofs.Holding.{too_long, bad_sections, bad_acts, good_acts, all_good, one_bad}
use Rattle.show.proofs.draft.Draft.read.Goals as goal

pub returns-then-text-gt60000 : goal.returns-then-text-gt60000
returns-then-text-gt60000 c = record { law = c.law_of_layout.ensures; read = (too_long _ (search rules), c.blank.ensures) }

pub returns-in_err-line : goal.returns-in_err-line
returns-in_err-line c =
    let short : length c.args.text.now ≤ 60000 = search rules in
    let p = err_from_is_err_and c.from_residual.result c.from_residual.ensures.1 in
    rw (p.1, p.2) (record { law = c.law_of_layout.ensures; read = (bad_sections c.args.text.now short _ (search rules), c.blank.ensures) })

pub returns-in_err-check_acts : goal.returns-in_err-check_acts
returns-in_err-check_acts c =
    let short : length c.args.text.now ≤ 60000 = search rules in
    let n = contents c.read_sections.new.network in
    let line = c.in_ok-line.line in
    let ps = pieces 10 c.in_ok-line.rest.now in
    let read : sections_on blank Opening 1 (pieces 10 c.args.text.now) ≡ Ok (n, line, ps) = search rules in
    let bad = one_bad (acts_on n (line + 1) 0 ps) _ (sym c.in_err-check_acts.ensures) in
    let p = err_from_is_err_and c.from_residual-in_err-check_acts.result c.from_residual-in_err-check_acts.ensures.1 in
    rw (p.1, p.2) (record { law = c.law_of_layout.ensures; read = (bad_acts c.args.text.now short n line ps read _ bad, c.blank.ensures) })

pub returns : goal.returns
returns c =
    let short : length c.args.text.now ≤ 60000 = search rules in
    let n = contents c.read_sections.new.network in
    let line = c.in_ok-line.line in
    let ps = pieces 10 c.in_ok-line.rest.now in
    let read : sections_on blank Opening 1 (pieces 10 c.args.text.now) ≡ Ok (n, line, ps) = search rules in
    let good = all_good (acts_on n (line + 1) 0 ps) (sym c.in_ok-check_acts.ensures) in
    let holds : Holds c.args.text.now _ _ = record {
      says = record { network = n; act_line = line; acts = good.0 };
      read = good_acts c.args.text.now short n line ps read good.0 good.1;
      network = refl;
      act_line = refl;
      behind = read;
      acts_first = refl;
      acts_count = refl;
      acts_left = good.1;
    } in
    record { law = c.law_of_layout.ensures; read = holds }
