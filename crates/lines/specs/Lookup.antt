-- Where a name stands. Assumes nothing.
use Rattle.std.specs.Prelude.{ℕ, ◌+◌, ◌<◌, cond, List, [], ◌∷◌, Some, None, Ok, Err, Option, Result}
use Rattle.std.specs.Str.{bytes_eq}
use Rattle.text.specs.declared.flaw.Flaw.{Flaw}
use Rattle.text.specs.declared.flaw.Flaw.TheVariants.{Form, Name}
use Rattle.text.specs.Bytes.{is_name}

-- where x first stands among the names, counted from k
abbrev pub position : ℕ → List ℕ → List (List ℕ) → Option ℕ
position k x [] = None
position k x (n ∷ ns) = cond (bytes_eq n x) (Some k) (position (k + 1) x ns)

abbrev pub Within : ℕ → Option ℕ → Type 0
Within n None = Unit {0}
Within n (Some k) = k < n

-- what is known by its place
abbrev pub known : Option ℕ → Result ℕ Flaw
known None = Err Name
known (Some k) = Ok k

-- the place of what must be a name, and known
abbrev pub known_at : List ℕ → Option ℕ → Result ℕ Flaw
known_at x k = cond (is_name x) (known k) (Err Form)

-- the place of a name that must be declared
abbrev pub looked_up : List (List ℕ) → List ℕ → Result ℕ Flaw
looked_up names x = known_at x (position 0 x names)

abbrev pub unknown : List ℕ → Option ℕ → Result (List ℕ) Flaw
unknown x None = Ok x
unknown x (Some k) = Err Name

-- what must be a name, and unknown
abbrev pub unknown_at : List ℕ → Option ℕ → Result (List ℕ) Flaw
unknown_at x k = cond (is_name x) (unknown x k) (Err Form)

-- a name that must not be declared yet
abbrev pub declared_anew : List (List ℕ) → List ℕ → Result (List ℕ) Flaw
declared_anew names x = unknown_at x (position 0 x names)

abbrev pub PlaceWithin : ℕ → Result ℕ Flaw → Type 0
PlaceWithin n (Ok k) = k < n
PlaceWithin n (Err f) = Unit {0}
