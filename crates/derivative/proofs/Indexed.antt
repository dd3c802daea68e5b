-- Nodes by their numbers: lists by index, the parts of a formula from node k on, records at nodes from one up to another.
use mathlib.Core.Path.{◌≡◌, refl, ◌∙◌}
use mathlib.Core.Bool.{Bool, true, ◌&&◌}
use mathlib.Core.List.{List, [], ◌∷◌, ◌++◌}
use mathlib.Core.Option.{some}
use Prim.Native.Nat.{ℕ, zero, suc, ◌+◌, ◌≤◌, ◌<◌}
use native.Mathlib.Omega.{arith}
use lib.ListN.{length, length-append, get_elem?, take, drop}
use lib.Dec.{leb, ltb}
use borrow.Author.Tests.{leb-true, le-leb, ltb-true, lt-ltb}
use Rattle.formula.specs.Formula.{Formula, Formulas, node, last, next, size, sizes}
use Rattle.formula.proofs.Tests.{and_first, and_second, and_both}
use Rattle.derivative.specs.Records.{Record}
use Rattle.derivative.specs.Provenance.{parts, parts_all, numbered, all_between}
use Rattle.derivative.proofs.Faultless.{none_some}

-- ---- lists by index

pub left_there : {A : Type 0} (xs ys : List A) (i : ℕ) (a : A) → get_elem? xs i ≡ some a → get_elem? (xs ++ ys) i ≡ some a
left_there [] ys i a e = none_some e
left_there (x ∷ xs) ys zero a e = e
left_there (x ∷ xs) ys (suc i) a e = left_there xs ys i a e

pub right_there : {A : Type 0} (xs ys : List A) (i : ℕ) → get_elem? (xs ++ ys) (length xs + i) ≡ get_elem? ys i
right_there [] ys i = let z : 0 + i ≡ i = omega arith in rw z
right_there (x ∷ xs) ys i = let z : suc (length xs) + i ≡ suc (length xs + i) = omega arith in rw z (right_there xs ys i)

pub there_below : {A : Type 0} (xs : List A) (i : ℕ) (a : A) → get_elem? xs i ≡ some a → i < length xs
there_below [] i a e = none_some e
there_below (x ∷ xs) zero a e = omega arith
there_below (x ∷ xs) (suc i) a e = omega (arith, there_below xs i a e)

-- ---- as many parts as nodes

mutual
  pub parts_length : (t : Formula) → length (parts t) ≡ size t
  parts_length (node h ts) = rw (parts_all_length ts)

  parts_all_length : (ts : Formulas) → length (parts_all ts) ≡ sizes ts
  parts_all_length last = refl
  parts_all_length (next t ts) = rw (length-append (parts t) (parts_all ts), parts_length t, parts_all_length ts)

-- ---- these parts are the formula's from node k on

abbrev pub From : Formula → ℕ → List Formula → Type 0
From f k ps = (i : ℕ) (u : Formula) → get_elem? ps i ≡ some u → get_elem? (parts f) (k + i) ≡ some u

module _ (f : Formula) where
  pub from_start : From f 0 (parts f)
  from_start i u e = let z : 0 + i ≡ i = omega arith in rw z e

  pub from_first : (k : ℕ) (p : Formula) (ps : List Formula) → From f k (p ∷ ps) → get_elem? (parts f) k ≡ some p
  from_first k p ps a = let z : k + 0 ≡ k = omega arith in rw (← z) (a 0 p refl)

  pub from_rest : (k : ℕ) (p : Formula) (ps : List Formula) → From f k (p ∷ ps) → From f (suc k) ps
  from_rest k p ps a i u e = let z : suc k + i ≡ k + suc i = omega arith in rw z (a (suc i) u e)

  pub from_left : (k : ℕ) (ps qs : List Formula) → From f k (ps ++ qs) → From f k ps
  from_left k ps qs a i u e = a i u (left_there ps qs i u e)

  pub from_right : (k : ℕ) (t : Formula) (qs : List Formula) → From f k (parts t ++ qs) → From f (k + size t) qs
  from_right k t qs a i u e =
      let z : k + size t + i ≡ k + (length (parts t) + i) = omega (arith, parts_length t) in
      rw z (a (length (parts t) + i) u (right_there (parts t) qs i ∙ e))

-- ---- records at nodes from one up to another

module _ (from to : ℕ) where
  pub between_one : (k : ℕ) (b : Bool) → from ≤ k → k < to → b ≡ true → (leb from k && ltb k to && b) ≡ true
  between_one k b l h e = and_both (leb from k && ltb k to) b (and_both (leb from k) (ltb k to) (le-leb from k l) (lt-ltb k to h)) e

  pub between_append : (xs ys : List Record) → all_between from to xs ≡ true → all_between from to ys ≡ true → all_between from to (xs ++ ys) ≡ true
  between_append [] ys e h = h
  between_append (x ∷ xs) ys e h =
      let a = leb from x.source && ltb x.source to in
      and_both a (all_between from to (xs ++ ys)) (and_first a (all_between from to xs) e)
      (between_append xs ys (and_second a (all_between from to xs) e) h)

  pub between_numbered : (k n : ℕ) → from ≤ k → k + n ≤ to → all_between from to (numbered k n) ≡ true
  between_numbered k zero l h = refl
  between_numbered k (suc n) l h =
      between_one k (all_between from to (numbered (suc k) n)) l (omega arith) (between_numbered (suc k) n (omega arith) (omega arith))

  pub between_drop : (j : ℕ) (xs : List Record) → all_between from to xs ≡ true → all_between from to (drop j xs) ≡ true
  between_drop zero xs e = e
  between_drop (suc j) [] e = refl
  between_drop (suc j) (x ∷ xs) e = between_drop j xs (and_second (leb from x.source && ltb x.source to) (all_between from to xs) e)

  pub between_take : (j : ℕ) (xs : List Record) → all_between from to xs ≡ true → all_between from to (take j xs) ≡ true
  between_take zero xs e = refl
  between_take (suc j) [] e = refl
  between_take (suc j) (x ∷ xs) e =
      let a = leb from x.source && ltb x.source to in
      and_both a (all_between from to (take j xs)) (and_first a (all_between from to xs) e)
      (between_take j xs (and_second a (all_between from to xs) e))

  pub between_wider : (from' to' : ℕ) → from ≤ from' → to' ≤ to → (xs : List Record) → all_between from' to' xs ≡ true → all_between from to xs ≡ true
  between_wider from' to' l h [] e = refl
  between_wider from' to' l h (x ∷ xs) e =
      let a = leb from' x.source && ltb x.source to' in
      let p = and_first a (all_between from' to' xs) e in
      let lo = leb-true from' x.source (and_first (leb from' x.source) (ltb x.source to') p) in
      let hi = ltb-true x.source to' (and_second (leb from' x.source) (ltb x.source to') p) in
      between_one x.source (all_between from to xs) (omega arith) (omega arith)
      (between_wider from' to' l h xs (and_second a (all_between from' to' xs) e))
