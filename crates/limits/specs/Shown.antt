-- How limits and comparisons are written. Assumes nothing.
use Rattle.std.specs.Prelude.{ℕ, Bool, true, false, List, ◌++◌, codes}
use Rattle.std.specs.Fmt.{signed_decimal}
use Rattle.differences.specs.Bounds.{Bound, none, upto}
use Rattle.limits.specs.declared.comparison.Comparison.{Comparison}
use Rattle.limits.specs.declared.comparison.Comparison.TheVariants.{Less, AtMost, Greater, AtLeast}

abbrev pub symbol_of : Comparison → List ℕ
symbol_of Less = codes "<"
symbol_of AtMost = codes "<="
symbol_of Greater = codes ">"
symbol_of AtLeast = codes ">="

abbrev pub mark_text : Bool → List ℕ
mark_text true = codes "<"
mark_text false = codes "<="

-- `-` for no limit, and else the mark and the number: `<5`, `<=-3`
abbrev pub limit_text : Bound → List ℕ
limit_text none = codes "-"
limit_text (upto z strict) = mark_text strict ++ signed_decimal z
