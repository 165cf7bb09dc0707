-- What it takes that a field, a line or a file is accepted. Assumes nothing.
use Rattle.std.proofs.Common.{◌≡◌, ℕ, ◌<◌, Bool, true, false, cond, List, length, Ok, Err, Option, Result, sym, refl}
use Rattle.std.proofs.lemmas.Bool.{ltb-true, eqb-true}
use Rattle.text.specs.declared.flaw.Flaw.{Flaw}
use Rattle.lines.specs.declared.line_fault.LineFault.{LineFault}
use Rattle.lines.specs.Columns.{at, with, counted, room}
use Rattle.network.specs.Networks.{Network}
use Rattle.show.specs.declared.fault.Fault.{Fault}
use Rattle.show.specs.declared.section.Section.{Section}
use Rattle.show.specs.Reading.{lined}

-- what is accepted is told by what it gives
pub ok_same : {X E : Type 0} {x y : X} → ◌≡◌ {A = Result X E} (Ok x) (Ok y) → x ≡ y
ok_same e = cc

-- what is refused is told by its fault
pub err_same : {X E : Type 0} {f g : E} → ◌≡◌ {A = Result X E} (Err f) (Err g) → f ≡ g
err_same e = cc

-- nothing is both
pub err_ok : {X E P : Type 0} {x : X} {f : E} → ◌≡◌ {A = Result X E} (Err f) (Ok x) → P
err_ok e = cc

-- a test that is passed
pub cond_ok : {Y E : Type 0} (b : Bool) (go : Result Y E) (bad : E) {y : Y} → cond b go (Err bad) ≡ Ok y → (b ≡ true) × (go ≡ Ok y)
cond_ok true go bad e = (refl, e)
cond_ok false go bad e = err_ok e

module _ {X Y : Type 0} where
  -- what a line gave, where it went on
  pub with_ok : (r : Result X LineFault) (go : X → Result Y LineFault) {y : Y} → with r go ≡ Ok y → (x : X) × (r ≡ Ok x) × (go x ≡ Ok y)
  with_ok (Ok x) go e = (x, refl, e)
  with_ok (Err f) go e = err_ok e

  -- what a field gave, where the line went on
  pub at_ok : (i : ℕ) (r : Result X Flaw) (go : X → Result Y LineFault) {y : Y} → at i r go ≡ Ok y → (x : X) × (r ≡ Ok x) × (go x ≡ Ok y)
  at_ok i (Ok x) go e = (x, refl, e)
  at_ok i (Err f) go e = err_ok e

  -- what a line gave, where the file went on
  pub lined_ok : (k : ℕ) (r : Result X LineFault) (go : X → Result Y Fault) {y : Y} → lined k r go ≡ Ok y → (x : X) × (r ≡ Ok x) × (go x ≡ Ok y)
  lined_ok k (Ok x) go e = (x, refl, e)
  lined_ok k (Err f) go e = err_ok e

module _ {Y : Type 0} {go : Result Y LineFault} {y : Y} where
  -- a line of so many fields
  pub counted_ok : (n : ℕ) (fs : List (List ℕ)) → counted n fs go ≡ Ok y → (length fs ≡ n) × (go ≡ Ok y)
  counted_ok n fs e = let p = cond_ok _ go _ e in (eqb-true (length fs) n p.0, p.1)

  -- so many lines
  pub room_ok : {X : Type 0} (most : ℕ) (xs : List X) → room most xs go ≡ Ok y → (length xs < most) × (go ≡ Ok y)
  room_ok most xs e = let p = cond_ok _ go _ e in (ltb-true (length xs) most p.0, p.1)

module _ {X : Type 0} (put : X → Network) (s : Option Section) where
  -- what a line of values declares, put into the network
  abbrev pub valued : Result X LineFault → Result Network LineFault
  valued r = with {X = Network × Option Section} (with r (λ x. Ok (put x, s))) (λ v. Ok v.0)

  -- what the line declares is put into the network
  pub value_ok : (r : Result X LineFault) (m : Network) → valued r ≡ Ok m → (x : X) × (r ≡ Ok x) × (m ≡ put x)
  value_ok (Ok x) m e = (x, refl, sym (ok_same e))
  value_ok (Err f) m e = err_ok e

  -- what is declared is put into the network
  pub value_on : (r : Result X LineFault) (m : Network) (x : X) → r ≡ Ok x → m ≡ put x → valued r ≡ Ok m
  value_on r m x e is = rw (e, is) refl

-- a line that gives the network itself
pub value_same : (s : Option Section) (r : Result Network LineFault) → valued (λ n. n) s r ≡ r
value_same s (Ok n) = refl
value_same s (Err f) = refl
