-- The signs by which a condition compares. Assumes nothing.
use Rattle.std.specs.Prelude.{ℕ, List, Some, None, codes, Option}
use Rattle.limits.specs.declared.comparison.Comparison.TheVariants.{Less, AtMost, Greater, AtLeast}
use Rattle.text.specs.Pieces.{after}
use Rattle.fields.specs.declared.relation.Relation.{Relation}
use Rattle.fields.specs.declared.relation.Relation.TheVariants.{Ordered, Equal}

-- the relation, with what stands after its sign if that is there, and else what else is found
abbrev pub by_sign : Relation → Option (List ℕ) → Option (Relation × List ℕ) → Option (Relation × List ℕ)
by_sign r (Some rest) else = Some (r, rest)
by_sign r None else = else

-- the relation in front, and what stands after it
abbrev pub relation_front : List ℕ → Option (Relation × List ℕ)
relation_front bs =
    by_sign (Ordered AtMost) (after (codes "<=") bs) (
    by_sign (Ordered Less) (after (codes "<") bs) (
    by_sign (Ordered AtLeast) (after (codes ">=") bs) (
    by_sign (Ordered Greater) (after (codes ">") bs) (
    by_sign Equal (after (codes "=") bs) None))))
