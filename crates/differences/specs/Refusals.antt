-- The number of each refusal, and how a contract says which refusal comes. Assumes nothing.
use Rattle.std.specs.Prelude.{◌≡◌, ℕ, ◌⊎◌, Ok, Err, Result}
use Rattle.std.proofs.Math.Option.{Option, none, some}
use Rattle.differences.specs.declared.fault.Fault.{Fault}
use Rattle.differences.specs.declared.fault.Fault.TheVariants.{OutOfRange, Empty, BeyondReach, NoSuchClock}

abbrev pub fault_number : Fault → ℕ
fault_number OutOfRange = 5
fault_number Empty = 15
fault_number BeyondReach = 16
fault_number NoSuchClock = 20

-- the number of the refusal that a call came to, if it was refused
abbrev pub refusal : {X : Type 0} → Result X Fault → Option ℕ
refusal (Ok x) = none
refusal (Err e) = some (fault_number e)

-- refused with this number where the condition holds, else as the rest says: the first refusal that applies is the one that comes
abbrev pub Refused : ℕ → Type 0 → (Option ℕ → Type 0) → Option ℕ → Type 0
Refused number condition rest o = (condition × (o ≡ some number)) ⊎ ((condition → ⊥) × rest o)

abbrev pub Accepted : Option ℕ → Type 0
Accepted o = o ≡ none
