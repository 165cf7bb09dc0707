-- Whole numbers and times by their digits. Assumes nothing.
use Rattle.std.specs.Prelude.{ℕ, ◌+◌, ◌-◌, ◌*◌, ◌/◌, ◌^◌, ◌<◌, ◌≤◌, Bool, cond, ◌&&◌, List, [], ◌∷◌, length, fold, ℤ, pos, neg_ℤ, Some, None, Ok, Err, Option, Result, ◌==◌, nat_le}
use Rattle.std.specs.List.{list_all}
use Rattle.text.specs.declared.flaw.Flaw.{Flaw}
use Rattle.text.specs.declared.flaw.Flaw.TheVariants.{Form, Range}
use Rattle.text.specs.Bytes.{is_digit}
use Rattle.text.specs.Pieces.{pieces}

abbrev pub all_digits : List ℕ → Bool
all_digits bs = list_all is_digit bs

-- the number so far, and then the digits
abbrev pub number_on : ℕ → List ℕ → ℕ
number_on n bs = fold (λ m b. m * 10 + (b - 48)) n bs

-- the number that 1 to most digits write, or none where the form is another
abbrev pub digits_up_to : ℕ → List ℕ → Option ℕ
digits_up_to most bs = cond (nat_le 1 (length bs) && (nat_le (length bs) most && all_digits bs)) (Some (number_on 0 bs)) None

abbrev pub ranged : Option ℕ → Result ℤ Flaw
ranged None = Err Form
ranged (Some n) = cond (nat_le n 30000) (Ok (pos n)) (Err Range)

-- 1 to 5 digits, up to 30,000
abbrev pub unsigned_of : List ℕ → Result ℤ Flaw
unsigned_of bs = ranged (digits_up_to 5 bs)

abbrev pub negated : Result ℤ Flaw → Result ℤ Flaw
negated (Ok n) = Ok (neg_ℤ n)
negated (Err f) = Err f

-- perhaps '-', then 1 to 5 digits
abbrev pub whole_of : List ℕ → Result ℤ Flaw
whole_of [] = Err Form
whole_of (b ∷ bs) = cond (b == 45) (negated (unsigned_of bs)) (unsigned_of (b ∷ bs))

-- what a number of at most most digits, written by k digits, is bounded by
abbrev pub Sized : Option ℕ → ℕ → ℕ → Type 0
Sized None most k = Unit {0}
Sized (Some n) most k = (0 < k) × (k ≤ most) × (n < 10 ^ k)

abbrev pub in_time : ℕ → Result ℕ Flaw
in_time ms = cond (nat_le ms 16000000) (Ok ms) (Err Range)

-- w seconds and, if any, decimals that write the number d of 10 ^ k-ths; what is below a thousandth is dropped
abbrev pub timed : Option ℕ → Option ℕ → ℕ → Result ℕ Flaw
timed None d k = Err Form
timed (Some w) None k = Err Form
timed (Some w) (Some d) k = in_time (w * 1000 + (1000 * d) / 10 ^ k)

-- the seconds, and the decimals if there is one '.'
abbrev pub time_parts : List (List ℕ) → Result ℕ Flaw
time_parts [] = Err Form
time_parts (w ∷ []) = timed (digits_up_to 5 w) (Some 0) 0
time_parts (w ∷ d ∷ []) = timed (digits_up_to 5 w) (digits_up_to 4 d) (length d)
time_parts (w ∷ d ∷ e ∷ es) = Err Form

abbrev pub time_of : List ℕ → Result ℕ Flaw
time_of bs = time_parts (pieces 46 bs)
