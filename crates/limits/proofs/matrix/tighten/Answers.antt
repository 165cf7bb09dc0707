use Rattle.std.proofs.Common.{◌≡◌, Bool, true, false, sym, ap, ◌∙◌, arith}
use Rattle.differences.specs.Bounds.{Bound, add, at_most, nought, Proper, arithmetic}
use Rattle.limits.specs.Tightening.{matrix}
use Rattle.limits.proofs.Rows.{every_entry}
use Rattle.differences.proofs.Tightening.{tightened_closed, tightened_members, none_left}
use Rattle.limits.proofs.matrix.tighten.Goals as goal

-- the test that was made is of the way there and back
tested : {z s x y : Bound} (b : Bound) (t : Bool) → z ≡ nought → s ≡ add x b → x ≡ y → t ≡ at_most z s → at_most nought (add y b) ≡ t
tested b t e f g h = sym (h ∙ (λ i. at_most (e i) (f i)) ∙ ap (λ v. at_most nought (add v b)) g)

pub returns-then-not-at_most-clause-readings : goal.returns-then-not-at_most-clause-readings
returns-then-not-at_most-clause-readings g c =
    let f = g.L.Limit.bound in
    let D = g.met.L.Limit in
    let M = matrix g.L.Limit c.args.limits.now in
    let b = c.args.bound in
    let below : at_most nought (add (M b.column b.row) (f b.limit)) ≡ false = tested (f b.limit) c.at_most.result c.zero.ensures c.sum_within-round.ensures c.limit_at.ensures c.at_most.ensures ∙ c.if-not-at_most.true in
    λ _. none_left (arithmetic g.L.Limit.time) D.lawful c.args.clocks M b.row b.column (f b.limit) (omega arith) (omega arith)
    (every_entry f (Proper g.L.Limit.time) D.lawful.proper_none D.proper c.args.limits.now) (D.proper b.limit) below

pub returns-clause-readings : goal.returns-clause-readings
returns-clause-readings g c =
    let f = g.L.Limit.bound in
    let D = g.met.L.Limit in
    let A = arithmetic g.L.Limit.time in
    let M = matrix g.L.Limit c.args.limits.now in
    let N = matrix g.L.Limit c.tighten_rows.new.limits in
    let b = c.args.bound in
    let leaves : at_most nought (add (M b.column b.row) (f b.limit)) ≡ true = tested (f b.limit) c.at_most.result c.zero.ensures c.sum_within-round.ensures c.limit_at.ensures c.at_most.ensures ∙ c.if-not-at_most.false in
    λ closed. (
      tightened_closed A D.lawful c.args.clocks M N b.row b.column (f b.limit) (omega arith) (omega arith) closed leaves c.tighten_rows.ensures.limits,
      λ v k cut. let m = tightened_members A D.lawful c.args.clocks M N b.row b.column (f b.limit) (omega arith) (omega arith)
          (every_entry f (Proper g.L.Limit.time) D.lawful.proper_none D.proper c.args.limits.now) (D.proper b.limit) closed c.tighten_rows.ensures.limits v k cut in
          (m.0, λ h. m.1 h.0 h.1),
    )
