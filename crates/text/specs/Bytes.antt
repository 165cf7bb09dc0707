-- The classes of bytes, and which rows of bytes are names. Assumes nothing.
use Rattle.std.specs.Prelude.{ℕ, Bool, false, ◌&&◌, ◌||◌, List, [], ◌∷◌, length, nat_le}
use Rattle.std.specs.List.{list_all}

-- 'a' to 'z'
abbrev pub is_lower : ℕ → Bool
is_lower b = nat_le 97 b && nat_le b 122

-- '0' to '9'
abbrev pub is_digit : ℕ → Bool
is_digit b = nat_le 48 b && nat_le b 57

abbrev pub in_name : ℕ → Bool
in_name b = is_lower b || is_digit b

abbrev pub all_in_name : List ℕ → Bool
all_in_name bs = list_all in_name bs

-- 1 to 12 bytes: a lower-case letter, then lower-case letters or digits
abbrev pub is_name : List ℕ → Bool
is_name [] = false
is_name (b ∷ bs) = is_lower b && (all_in_name bs && nat_le (length (b ∷ bs)) 12)
