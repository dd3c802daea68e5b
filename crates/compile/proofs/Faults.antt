-- A fault has a number of 5 to 9, and its place a text within the longest path's.
use mathlib.Core.Path.{◌≡◌, subst}
use mathlib.Core.Bool.{Bool, true, false, ◌&&◌}
use mathlib.Core.Option.{Option, none, some}
use Prim.Native.Nat.{ℕ, suc, ◌+◌, ◌*◌, ◌≤◌}
use native.Mathlib.Omega.{arith}
use lib.ListN.{length}
use lib.Dec.{ltb}
use Rattle.arithmetic.specs.Value.{finite}
use Rattle.arithmetic.specs.Constant
use Rattle.formula.specs.Operator.{Boolean, argument_kind, arity, same_kind, stepped}
use Rattle.formula.specs.Path.{Path, ◌▸◌, argument, condition, else_arm, text, then_arm}
use Rattle.formula.specs.Term.{Term, Terms, ◌and◌, apply, branch, end, literal, miscounted, symbol, term_count, truth}
use Rattle.machine.specs.Check.{Context, Fault, all_kind, any_dynamic, dynamic, fault, faults, kind, or_else, supported, unless}
use Rattle.machine.specs.Paths.{longest_path, longest_paths}
use Rattle.machine.proofs.Size.{Narrow, Narrows, argument_short, condition_short, else_short, then_short}

-- the number is a refusal's
pub record Ranged (x : Fault) : Type 0 where
  pub least : 5 ≤ x.number
  pub most : x.number ≤ 9

-- and the text at most n bytes long
pub record Near (x : Fault) (n : ℕ) : Type 0 where
  pub least : 5 ≤ x.number
  pub most : x.number ≤ 9
  pub short : length (text x.place) ≤ n

abbrev Each : (Fault → Type 0) → Option Fault → Type 0
Each P o = (x : Fault) → o ≡ some x → P x

-- there is no fault
never : (P : Fault → Type 0) → Each P none
never P x e = let w : ◌≡◌ {A = ℕ} 0 1 = cc in absurd (omega arith)

unless_each : (P : Fault → Type 0) (b : Bool) (k : ℕ) (p : Path) → P (record { number = k; place = p }) → Each P (unless b k p)
unless_each P true k p h x e = never P x e
unless_each P false k p h x e = subst P same h
  where
    y : Fault
    y = record { number = k; place = p }

    same : y ≡ x
    same = cc

else_each : (P : Fault → Type 0) (a b : Option Fault) → Each P a → Each P b → Each P (or_else a b)
else_each P none b A B = B
else_each P (some y) b A B = A

-- ---- the numbers, in any term

at_number : (b : Bool) (k : ℕ) (p : Path) → 5 ≤ k → k ≤ 9 → Each Ranged (unless b k p)
at_number b k p l m = unless_each Ranged b k p (record { least = l; most = m })

mutual
  pub ranged : (C : Context) (t : Term) (p : Path) → Each Ranged (fault C t p)
  ranged C (literal b) p = at_number (finite (Constant.literal b)) 9 p (omega arith) (omega arith)
  ranged C (truth b) p = never Ranged
  ranged C (symbol i) p = at_number (ltb i (length C.symbols)) 6 p (omega arith) (omega arith)
  ranged C (apply o ts) p =
      let a = unless (arity o (term_count ts)) 5 p in
      let k = unless (all_kind (argument_kind o) ts) 7 p in
      let u = unless (supported C (stepped o && any_dynamic C ts)) 8 p in
      else_each Ranged (faults C ts p 0) (or_else a (or_else k u)) (all_ranged C ts p 0)
      (else_each Ranged a (or_else k u) (at_number (arity o (term_count ts)) 5 p (omega arith) (omega arith))
      (else_each Ranged k u (at_number (all_kind (argument_kind o) ts) 7 p (omega arith) (omega arith))
      (at_number (supported C (stepped o && any_dynamic C ts)) 8 p (omega arith) (omega arith))))
  ranged C (branch c y e) p =
      let k = unless (same_kind (kind c) Boolean) 7 p in
      let u = unless (supported C (dynamic C c)) 8 p in
      let w = unless (same_kind (kind e) (kind y)) 7 p in
      let fy = fault C y (p ▸ then_arm) in
      let fe = fault C e (p ▸ else_arm) in
      else_each Ranged (fault C c (p ▸ condition)) (or_else k (or_else u (or_else fy (or_else fe w)))) (ranged C c (p ▸ condition))
      (else_each Ranged k (or_else u (or_else fy (or_else fe w))) (at_number (same_kind (kind c) Boolean) 7 p (omega arith) (omega arith))
      (else_each Ranged u (or_else fy (or_else fe w)) (at_number (supported C (dynamic C c)) 8 p (omega arith) (omega arith))
      (else_each Ranged fy (or_else fe w) (ranged C y (p ▸ then_arm))
      (else_each Ranged fe w (ranged C e (p ▸ else_arm)) (at_number (same_kind (kind e) (kind y)) 7 p (omega arith) (omega arith))))))
  ranged C miscounted p = at_number false 5 p (omega arith) (omega arith)

  all_ranged : (C : Context) (ts : Terms) (p : Path) (i : ℕ) → Each Ranged (faults C ts p i)
  all_ranged C end p i = never Ranged
  all_ranged C (t and ts) p i = else_each Ranged (fault C t (p ▸ argument i)) (faults C ts p (suc i)) (ranged C t (p ▸ argument i)) (all_ranged C ts p (suc i))

-- ---- the places, where no operation has more than 65,536 arguments

abbrev Short : ℕ → Fault → Type 0
Short n x = length (text x.place) ≤ n

mutual
  place_of : (C : Context) (t : Term) (p : Path) (n : ℕ) → Narrow t → length (text p) + 17 * longest_path t ≤ n → Each (Short n) (fault C t p)
  place_of C (literal b) p n N h = unless_each (Short n) (finite (Constant.literal b)) 9 p (omega arith)
  place_of C (truth b) p n N h = never (Short n)
  place_of C (symbol i) p n N h = unless_each (Short n) (ltb i (length C.symbols)) 6 p (omega arith)
  place_of C (apply o ts) p n N h =
      let a = unless (arity o (term_count ts)) 5 p in
      let k = unless (all_kind (argument_kind o) ts) 7 p in
      let u = unless (supported C (stepped o && any_dynamic C ts)) 8 p in
      else_each (Short n) (faults C ts p 0) (or_else a (or_else k u)) (places_of C ts p 0 n (omega (arith, N.0)) N.1 (omega arith))
      (else_each (Short n) a (or_else k u) (unless_each (Short n) (arity o (term_count ts)) 5 p (omega arith))
      (else_each (Short n) k u (unless_each (Short n) (all_kind (argument_kind o) ts) 7 p (omega arith))
      (unless_each (Short n) (supported C (stepped o && any_dynamic C ts)) 8 p (omega arith))))
  place_of C (branch c y e) p n N h =
      let k = unless (same_kind (kind c) Boolean) 7 p in
      let u = unless (supported C (dynamic C c)) 8 p in
      let w = unless (same_kind (kind e) (kind y)) 7 p in
      let fy = fault C y (p ▸ then_arm) in
      let fe = fault C e (p ▸ else_arm) in
      else_each (Short n) (fault C c (p ▸ condition)) (or_else k (or_else u (or_else fy (or_else fe w)))) (place_of C c (p ▸ condition) n N.0 (omega (arith, condition_short p)))
      (else_each (Short n) k (or_else u (or_else fy (or_else fe w))) (unless_each (Short n) (same_kind (kind c) Boolean) 7 p (omega arith))
      (else_each (Short n) u (or_else fy (or_else fe w)) (unless_each (Short n) (supported C (dynamic C c)) 8 p (omega arith))
      (else_each (Short n) fy (or_else fe w) (place_of C y (p ▸ then_arm) n N.1 (omega (arith, then_short p)))
      (else_each (Short n) fe w (place_of C e (p ▸ else_arm) n N.2 (omega (arith, else_short p))) (unless_each (Short n) (same_kind (kind e) (kind y)) 7 p (omega arith))))))
  place_of C miscounted p n N h = unless_each (Short n) false 5 p (omega arith)

  places_of : (C : Context) (ts : Terms) (p : Path) (i n : ℕ) → i + term_count ts ≤ 65536 → Narrows ts → length (text p) + 17 * longest_paths ts ≤ n → Each (Short n) (faults C ts p i)
  places_of C end p i n k N h = never (Short n)
  places_of C (t and ts) p i n k N h =
      else_each (Short n) (fault C t (p ▸ argument i)) (faults C ts p (suc i)) (place_of C t (p ▸ argument i) n N.0 (omega (arith, argument_short p i (omega arith)))) (places_of C ts p (suc i) n (omega arith) N.1 (omega arith))

pub near : (C : Context) (t : Term) (p : Path) (n : ℕ) → Narrow t → length (text p) + 17 * longest_path t ≤ n → (x : Fault) → fault C t p ≡ some x → Near x n
near C t p n N h x e =
    let R = ranged C t p x e in
    record { least = R.least; most = R.most; short = place_of C t p n N h x e }
