-- Limits on the difference of two clock readings, with no ceiling on their numbers, and the two kinds of time. Assumes nothing.
use Rattle.std.specs.Prelude.{◌≡◌, ℕ, ◌<◌, ◌≤◌, Bool, true, false, ◌||◌, ℤ, pos, ◌+ℤ◌, ◌-ℤ◌, ◌*ℤ◌, ◌≤ℤ◌, ◌<ℤ◌, int_le, int_lt, unsigned_abs}
use Rattle.differences.specs.Laws.{Arithmetic}

-- no limit, or a number of ticks: `upto z true` is `<z`, and `upto z false` is `<=z`
pub data Bound : Type 0 where
  none : Bound
  upto : ℤ → Bool → Bound
  deriving IsSet as bound_set

abbrev pub Below : Bool → ℤ → ℤ → Type 0
Below true p z = p <ℤ z
Below false p z = p ≤ℤ z

-- a difference of p parts, k of which make a tick, keeps the limit
abbrev pub IsMet : Bound → ℤ → ℕ → Type 0
IsMet none p k = Unit {0}
IsMet (upto z strict) p k = Below strict p (z *ℤ pos k)

-- the order of two limits with numbers n and m, the first strict or not, and the second
abbrev pub under : Bool → Bool → ℤ → ℤ → Bool
under true t n m = int_le n m
under false true n m = int_lt n m
under false false n m = int_le n m

-- the smaller limit has the smaller number; at equal numbers `<` is smaller than `<=`; none is the greatest
abbrev pub at_most : Bound → Bound → Bool
at_most none none = true
at_most none (upto m t) = false
at_most (upto n s) none = true
at_most (upto n s) (upto m t) = under s t n m

-- a sum adds the numbers, is `<` if either is, and is none if either is
abbrev pub add : Bound → Bound → Bound
add none b = none
add (upto n s) none = none
add (upto n s) (upto m t) = upto (n +ℤ m) (s || t)

-- `<=0`
abbrev pub nought : Bound
nought = upto (pos 0) false

-- the size of a limit's number
abbrev pub size : Bound → ℕ
size none = 0
size (upto z strict) = unsigned_abs z

-- a number that no limit may have
abbrev pub Large : Bound → Type 0
Large b = 4000000000 < size b

-- fine time has every fraction of a tick, whole time has ticks alone
pub data Time : Type 0 where
  fine : Time
  whole : Time

-- how many parts a tick may be cut into
abbrev pub Cut : Time → ℕ → Type 0
Cut fine k = 1 ≤ k
Cut whole k = k ≡ 1

-- how much finer a cut may have to be for a difference to split in two
abbrev pub finer : Time → ℕ
finer fine = 2
finer whole = 1

-- the limits of a kind of time: whole time has no `<`
abbrev pub Proper : Time → Bound → Type 0
Proper fine b = Unit {0}
Proper whole none = Unit {0}
Proper whole (upto z strict) = strict ≡ false

-- the limit that says `<z`: whole time reads it as `<=z-1`
abbrev pub less_than : Time → ℤ → Bound
less_than fine z = upto z true
less_than whole z = upto (z -ℤ pos 1) false

abbrev pub arithmetic : Time → Arithmetic Bound
arithmetic time = record { leq = at_most; add = add; nought = nought; none = none; meets = IsMet; Proper = Proper time; Cut = Cut time; finer = finer time }
