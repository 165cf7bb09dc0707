-- Collecting the items of a field one by one. Assumes nothing.
use Rattle.std.proofs.Common.{◌≡◌, ℕ, ◌+◌, ◌<◌, ◌≤◌, Bool, true, false, cond, ◌||◌, ltb, List, [], ◌∷◌, ◌++◌, map, length, Some, None, Ok, Err, codes, Option, Result, refl, sym, ◌∙◌, ⊎_elim, append_assoc, append-nil, arith, length-append, Bor}
use Rattle.std.proofs.lemmas.Bool.{lt-ltb, le-ltb, cases_lt, or_right, cond-true, cond-false}
use Rattle.std.specs.Str.{bytes_eq}
use Rattle.text.specs.declared.flaw.Flaw.{Flaw}
use Rattle.text.specs.declared.flaw.Flaw.TheVariants.{Form, Name, Range, Count}
use Rattle.text.specs.Pieces.{pieces}
use Rattle.fields.specs.Lists.{earlier, has, oks, staged, same_flaw, list_of}

module _ {X : Type 0} where
  -- what the worst flaw and the items so far come to
  abbrev pub ended : Option Flaw → List X → Result (List X) Flaw
  ended None got = Ok got
  ended (Some f) got = Err f

  -- the flaws and the items, one by one, after those that are had
  abbrev pub collect : ℕ → Option Flaw → List X → List (Result X Flaw) → Result (List X) Flaw
  collect most worst got [] = ended worst got
  collect most worst got (Ok x ∷ rs) = cond (ltb (length got) most) (collect most worst (got ++ x ∷ []) rs) (collect most (earlier worst Count) got rs)
  collect most worst got (Err f ∷ rs) = collect most (earlier worst f) got rs

-- what is left to read, counted with its end
abbrev pub left_length : Option (Bor (List ℕ)) → ℕ
left_length None = 0
left_length (Some r) = length r.now + 1

-- the worst flaw so far is this one
abbrev at : Option Flaw → Flaw → Bool
at None f = false
at (Some e) f = same_flaw e f

module _ {X : Type 0} (most : ℕ) where
  -- what is asked, in its order, of the items that are left and of what is had
  abbrev onward : Option Flaw → List X → List (Result X Flaw) → Result (List X) Flaw
  onward worst got rs =
      cond (at worst Form || has Form rs) (Err Form) (
      cond (at worst Name || has Name rs) (Err Name) (
      cond (at worst Range || has Range rs) (Err Range) (
      cond (at worst Count || (has Count rs || ltb most (length got + length rs))) (Err Count) (
      Ok (got ++ oks rs)))))

  flawed : (worst : Option Flaw) (f : Flaw) (got : List X) (rs : List (Result X Flaw)) → onward (earlier worst f) got rs ≡ onward worst got (Err f ∷ rs)
  flawed None Form got rs = refl
  flawed None Name got rs = refl
  flawed None Range got rs = refl
  flawed None Count got rs = refl
  flawed (Some Form) Form got rs = refl
  flawed (Some Form) Name got rs = refl
  flawed (Some Form) Range got rs = refl
  flawed (Some Form) Count got rs = refl
  flawed (Some Name) Form got rs = refl
  flawed (Some Name) Name got rs = refl
  flawed (Some Name) Range got rs = refl
  flawed (Some Name) Count got rs = refl
  flawed (Some Range) Form got rs = refl
  flawed (Some Range) Name got rs = refl
  flawed (Some Range) Range got rs = refl
  flawed (Some Range) Count got rs = refl
  flawed (Some Count) Form got rs = refl
  flawed (Some Count) Name got rs = refl
  flawed (Some Count) Range got rs = refl
  flawed (Some Count) Count got rs = refl

  full : (worst : Option Flaw) (x : X) (got : List X) (rs : List (Result X Flaw)) → (has Count rs || ltb most (length got + length (Ok x ∷ rs))) ≡ true → onward (earlier worst Count) got rs ≡ onward worst got (Ok x ∷ rs)
  full None x got rs many = rw many refl
  full (Some Form) x got rs many = refl
  full (Some Name) x got rs many = refl
  full (Some Range) x got rs many = refl
  full (Some Count) x got rs many = refl

  onwards : (worst : Option Flaw) (got : List X) (rs : List (Result X Flaw)) → length got ≤ most → collect most worst got rs ≡ onward worst got rs
  onwards None got [] few = rw (le-ltb most (length got + 0) (omega arith), append-nil got) refl
  onwards (Some Form) got [] few = refl
  onwards (Some Name) got [] few = refl
  onwards (Some Range) got [] few = refl
  onwards (Some Count) got [] few = refl
  onwards worst got (Err f ∷ rs) few = onwards (earlier worst f) got rs few ∙ flawed worst f got rs
  onwards worst got (Ok x ∷ rs) few =
      let grown : length (got ++ x ∷ []) + length rs ≡ length got + length (Ok x ∷ rs) = rw length-append (omega arith) in
      ⊎_elim
      (λ (h : length got < most). cond-true _ _ _ (lt-ltb _ _ h) ∙ onwards worst (got ++ x ∷ []) rs (rw length-append (omega arith)) ∙ rw (grown, append_assoc got (x ∷ []) (oks rs)) refl)
      (λ (h : most ≤ length got). cond-false _ _ _ (le-ltb _ _ h) ∙ onwards (earlier worst Count) got rs few ∙ full worst x got rs (or_right (has Count rs) (ltb most (length got + length (Ok x ∷ rs))) (lt-ltb most (length got + length (Ok x ∷ rs)) (omega arith))))
      (cases_lt (length got) most)

  -- collecting one by one asks in the order of the rules
  collects : (rs : List (Result X Flaw)) → collect most None [] rs ≡ staged most rs
  collects rs = let none : 0 + length rs ≡ length rs = omega arith in onwards None [] rs (omega arith) ∙ rw none refl

  -- so does a field that is no `-`
  pub list_of_from_collect : (read : List ℕ → Result X Flaw) (s : List ℕ) (r : Result (List X) Flaw) → bytes_eq s (codes "-") ≡ false → collect most None [] (map read (pieces 44 s)) ≡ r → list_of most read s ≡ r
  list_of_from_collect read s r items all = cond-false _ _ _ items ∙ sym (collects (map read (pieces 44 s))) ∙ all
