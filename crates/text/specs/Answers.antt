-- How a call's answer is said by its definition.
use Rattle.std.specs.Prelude.{◌≡◌, Result, Ok, Err, MatchResult}

-- The call answers what its definition says; `view` is what a value of the program stands for.
abbrev pub Answers : {A B E : Type 0} → (A → B) → Result A E → Result B E → Type 0
Answers view result defined = MatchResult result (λ a. defined ≡ Ok (view a)) (λ e. defined ≡ Err e)

-- The call changes something as its definition says; a refusal leaves it as it was.
abbrev pub Changes : {A B U E : Type 0} → (A → B) → A → A → Result U E → Result B E → Type 0
Changes view old new result defined = MatchResult result (λ _. defined ≡ Ok (view new)) (λ e. (defined ≡ Err e) × (new ≡ old))
