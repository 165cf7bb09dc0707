-- The acts of a file, line by line. Assumes nothing.
use Rattle.std.proofs.Common.{◌≡◌, ℕ, ◌+◌, ◌<◌, ◌≤◌, ltb, List, [], ◌∷◌, ◌++◌, length, Ok, Err, Result, sym, refl, ap, ◌∙◌, arith}
use Rattle.std.proofs.lemmas.Bool.{lt-ltb, ltb-true, eq-eqb}
use Rattle.text.specs.Pieces.{pieces}
use Rattle.acts.specs.Acts.{Act, act_line}
use Rattle.network.specs.Networks.{Network}
use Rattle.show.specs.declared.fault.Fault.{Fault}
use Rattle.show.specs.Layout.{Lines, ActLine}
use Rattle.show.specs.Reading.{prepended, acts_on}
use Rattle.show.proofs.Stepping.{Full, full}
use Rattle.show.proofs.Taking.{ok_same, err_ok, cond_ok, lined_ok, counted_ok}

module _ (n : Network) (count : ℕ) (l : List ℕ) (a : Act) where
  -- a line of an act is read
  act_good : (k : ℕ) → ActLine n k l a → count < 4096 → act_line n count (pieces 32 l) ≡ Ok a
  act_good k h few = rw (eq-eqb (length (pieces 32 l)) 3 h.count, lt-ltb count 4096 few) h.act

  -- what is read is a line of an act
  act_back : (k : ℕ) → act_line n count (pieces 32 l) ≡ Ok a → ActLine n k l a × (count < 4096)
  act_back k e =
      let three = counted_ok 3 (pieces 32 l) e in
      let few = cond_ok (ltb count 4096) _ _ three.1 in
      (record { count = three.0; act = few.1 }, ltb-true count 4096 few.0)

  -- an act that is read, and what is read on
  pub act_on : (first : ℕ) → act_line n count (pieces 32 l) ≡ Ok a → (ps : List (List ℕ)) → Full ps → acts_on n first count (l ∷ ps) ≡ prepended a (acts_on n first (count + 1) ps)
  act_on first e [] more = absurd more
  act_on first e (p ∷ ps) more = rw e refl

prepended_ok : (a : Act) (r : Result (List Act) Fault) (out : List Act) → prepended a r ≡ Ok out → (rest : List Act) × (r ≡ Ok rest) × (out ≡ a ∷ rest)
prepended_ok a (Ok rest) out e = (rest, refl, cc)
prepended_ok a (Err fault) out e = err_ok e

module _ (n : Network) (first : ℕ) where
  -- the lines of at most 4,096 acts are read
  pub acts_on_lem : (ls : List (List ℕ)) (acts : List Act) (count k : ℕ) → k ≡ first + count → Lines (ActLine n) k ls acts → count + length acts ≤ 4096 → acts_on n first count (ls ++ [] ∷ []) ≡ Ok acts
  acts_on_lem [] [] count k here h few = refl
  acts_on_lem [] (a ∷ acts) count k here h few = absurd h
  acts_on_lem (l ∷ ls) [] count k here h few = absurd h
  acts_on_lem (l ∷ ls) (a ∷ acts) count k here h few = act_on n count l a first (act_good n count l a k h.0 (omega arith)) (ls ++ [] ∷ []) (full ls ([] ∷ []) tt) ∙ ap (prepended a) (acts_on_lem ls acts (count + 1) (k + 1) (omega arith) h.1 (omega arith))

  -- the acts, where they are read, and their lines
  pub record Run (k count : ℕ) (ps : List (List ℕ)) (acts : List Act) : Type 0 where
    pub lines : List (List ℕ)
    pub split : ps ≡ lines ++ [] ∷ []
    pub are : Lines (ActLine n) k lines acts
    pub few : count + length acts ≤ 4096

  -- one act more in front
  one_more : (k count : ℕ) (l : List ℕ) (a : Act) (ps : List (List ℕ)) (rest acts : List Act) → acts ≡ a ∷ rest → ActLine n k l a → Run (k + 1) (count + 1) ps rest → Run k count (l ∷ ps) acts
  one_more k count l a ps rest acts same line h = rw same (record { lines = l ∷ h.lines; split = ap (λ x. l ∷ x) h.split; are = (line, h.are); few = omega (arith, h.few) })

  -- where acts are read, they are lines of acts, each ended by LF
  pub acts_back : (ps : List (List ℕ)) → Full ps → (count k : ℕ) (acts : List Act) → k ≡ first + count → count ≤ 4096 → acts_on n first count ps ≡ Ok acts → Run k count ps acts
  acts_back [] more count k acts here few e = absurd more
  acts_back ([] ∷ []) more count k acts here few e = rw (sym (ok_same e)) (record { lines = []; split = refl; are = tt; few = omega arith })
  acts_back ((b ∷ bs) ∷ []) more count k acts here few e = err_ok e
  acts_back (l ∷ p ∷ ps) more count k acts here few e =
      let w = lined_ok (first + count) (act_line n count (pieces 32 l)) (λ a. prepended a (acts_on n first (count + 1) (p ∷ ps))) e in
      let line = act_back n count l w.0 k w.1 in
      let rest = prepended_ok w.0 (acts_on n first (count + 1) (p ∷ ps)) acts w.2 in
      one_more k count l w.0 (p ∷ ps) rest.0 acts rest.2 line.0 (acts_back (p ∷ ps) tt (count + 1) (k + 1) rest.0 (omega arith) (omega (arith, line.1)) rest.1)
