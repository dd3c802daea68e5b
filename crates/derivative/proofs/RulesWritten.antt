-- Every rule makes nodes that its arm writes, and no others.
use mathlib.Core.Path.{◌≡◌, refl}
use mathlib.Core.Bool.{Bool, true, false, ◌&&◌, ◌||◌}
use mathlib.Core.Logic.{◌⊎◌, inl, inr}
use mathlib.Core.List.{[]}
use mathlib.Core.Option.{Option, none, some}
use Prim.Native.Nat.{ℕ, zero, suc, ◌+◌, ◌≤◌, ◌<◌}
use native.Mathlib.Omega.{arith}
use lib.ListN.{get_or}
use lib.Dec.{eqb}
use borrow.Author.Tests.{eq-eqb}
use Rattle.formula.specs.Operator.{Operation, unary, binary, compare, call, Positive, Negative, Not, Binary, Add, Subtract, Multiply, Divide, Power, Modulo, Function, Exp, Log, Log10, Sqrt, Sin, Cos, Tan, Tanh, Abs, Floor, Ceil, Min, Max, Hill, InverseGaussianDensity}
use Rattle.formula.specs.Formula.{Head, number, truth, symbol, operation, junction, ifelse, conditional, malformed}
use Rattle.formula.proofs.Tests.{and_both}
use Rattle.derivative.specs.Rules.{binary_of, Rule, mul, diff, child, zeroth, lit, branch, 1·0, zero_bits, one_bits, less_one, power_rule, binary_rule, branch_rule, extremum_from, hill_rule, call_rule, operation_rule, rule_of}
use Rattle.derivative.specs.Records.{arm, binary_arm, call_arm, operation_arm}
use Rattle.derivative.specs.Provenance.{same_head, is_one_of, written_nodes, looked_at}
use Rattle.derivative.proofs.Faultless.{none_some}
use Rattle.derivative.proofs.Written.{written, present}

-- whether arm r writes such a node, or a 0 for a child that is missing; x is the exponent's bits where it is a literal
abbrev pub writes_by : Bool → Option ℕ → ℕ → Head → Bool
writes_by missing x r g = (same_head g (number 0) && missing) || is_one_of (get_or (written_nodes x) r []) g

-- a rule at a node with n children makes the nodes of arm r alone, or is Power's with `power`'s 1 in it
abbrev pub Made : Bool → Option ℕ → ℕ → ℕ → Rule → Type 0
Made missing x r n q =
    (written (writes_by missing x r) n q ≡ true)
    ⊎ ((c : ℕ) × (q ≡ mul (mul (lit c) zeroth) (diff 0)) × (writes_by missing x r (number c) ≡ true)
    × (writes_by missing x r (operation (binary Multiply)) ≡ true) × (written (writes_by missing x r) n (diff 0) ≡ true))

made : (missing : Bool) (x : Option ℕ) (r n : ℕ) (R q : Rule) → written (writes_by missing x r) n R ≡ true → some R ≡ some q → Made missing x r n q
made missing x r n R q t e = let p : R ≡ q = cc in inl (rw (← p) t)

-- ---- an arm that looks at one child, at two, at three

module _ (x : Option ℕ) (r : ℕ) (R : Rule) where
  of_one : ((m : ℕ) → written (writes_by true x r) (suc m) R ≡ true) → ((m : ℕ) → written (writes_by false x r) (suc m) R ≡ true)
      → (missing : Bool) (m : ℕ) → written (writes_by missing x r) (suc m) R ≡ true
  of_one p q true m = p m
  of_one p q false m = q m

  of_two : ((m : ℕ) → written (writes_by true x r) (suc m) R ≡ true) → ((m : ℕ) → written (writes_by false x r) (suc (suc m)) R ≡ true)
      → (missing : Bool) (m : ℕ) → (missing ≡ false → 2 ≤ suc m) → written (writes_by missing x r) (suc m) R ≡ true
  of_two p q true m h = p m
  of_two p q false zero h = absurd (omega (arith, h refl))
  of_two p q false (suc m) h = q m

  of_three : ((m : ℕ) → written (writes_by true x r) (suc m) R ≡ true) → ((m : ℕ) → written (writes_by false x r) (suc (suc (suc m))) R ≡ true)
      → (missing : Bool) (m : ℕ) → (missing ≡ false → 3 ≤ suc m) → written (writes_by missing x r) (suc m) R ≡ true
  of_three p q true m h = p m
  of_three p q false zero h = absurd (omega (arith, h refl))
  of_three p q false (suc zero) h = absurd (omega (arith, h refl))
  of_three p q false (suc (suc m)) h = q m

-- ---- Power by a literal

or_left : (a b : Bool) → a ≡ true → (a || b) ≡ true
or_left a b e = rw e

or_right : (a b : Bool) → b ≡ true → (a || b) ≡ true
or_right true b e = refl
or_right false b e = e

module _ (missing : Bool) (c m : ℕ) where
  abbrev w : Head → Bool
  w = writes_by missing (some c) 8

  first_there : written w (suc m) (diff 0) ≡ true
  first_there = or_right (w (number 0)) true refl

  exponent_written : w (number c) ≡ true
  exponent_written = or_right (same_head (number c) (number 0) && missing) _ (or_left (eqb c c) _ (eq-eqb c c refl))

  less_written : w (number (less_one c)) ≡ true
  less_written =
      let n = less_one c in
      or_right (same_head (number n) (number 0) && missing) _ (or_right (same_head (number n) (number c)) _ (or_left (eqb n n) _ (eq-eqb n n refl)))

  product_written : (R : Rule) → written w (suc m) R ≡ true → written w (suc m) (mul (mul (lit c) R) (diff 0)) ≡ true
  product_written R e =
      and_both (written w (suc m) (mul (lit c) R)) _ (and_both (w (number c) && true) _ (and_both (w (number c)) true exponent_written refl) e) first_there

  literal_made : Made missing (some c) 8 (suc m) (power_rule (some c))
  literal_made = from (one_bits (less_one c)) (zero_bits (less_one c)) refl refl
    where
      from : (a b : Bool) → one_bits (less_one c) ≡ a → zero_bits (less_one c) ≡ b → Made missing (some c) 8 (suc m) (power_rule (some c))
      from true b u v = inl (rw u (product_written (child 0) first_there))
      from false true u v = inr (c, rw (u, v), exponent_written, refl, first_there)
      from false false u v =
          inl (rw (u, v)
          (product_written (binary_of Power (child 0) (lit (less_one c)))
          (and_both (written w (suc m) (child 0)) _ first_there (and_both (w (number (less_one c)) && true) true (and_both (w (number (less_one c))) true less_written refl) refl))))

power_made : (missing : Bool) (m : ℕ) (x : Option ℕ) → Made missing x 8 (suc m) (power_rule x)
power_made true m none = inl refl
power_made false m none = inl refl
power_made missing m (some c) = literal_made missing c m

-- ---- the arms

present_at : (n i : ℕ) → i < n → present n i ≡ true
present_at zero i h = absurd (omega arith)
present_at (suc n) zero h = refl
present_at (suc n) (suc i) h = present_at n i (omega arith)

extremum_written : (missing : Bool) (x : Option ℕ) (n i left : ℕ) → i + left < n → written (writes_by missing x 12) n (extremum_from i left) ≡ true
extremum_written true x n i zero h = refl
extremum_written true x n i (suc left) h = rw (extremum_written true x n (suc i) left (omega arith))
extremum_written false x n i zero h = present_at n i (omega arith)
extremum_written false x n i (suc left) h = rw (present_at n i (omega arith), extremum_written false x n (suc i) left (omega arith))

hill_written : (x : Option ℕ) (by_state missing : Bool) (m : ℕ) → written (writes_by missing x 15) (suc m) (hill_rule by_state) ≡ true
hill_written x true true m = refl
hill_written x true false m = refl
hill_written x false true m = refl
hill_written x false false m = refl

abbrev choice : Rule
choice = branch (child 0) (diff 1) (diff 2)

-- at least as many children as the arm of this number looks at, unless some are missing
abbrev pub Enough : Bool → ℕ → ℕ → Type 0
Enough missing r n = missing ≡ false → get_or looked_at r 0 ≤ n

module _ (b missing : Bool) (x : Option ℕ) (m : ℕ) where
  simple : (r : ℕ) (R q : Rule) → ((m : ℕ) → written (writes_by true x r) (suc m) R ≡ true) → ((m : ℕ) → written (writes_by false x r) (suc m) R ≡ true)
      → some R ≡ some q → Made missing x r (suc m) q
  simple r R q p p' e = made missing x r (suc m) R q (of_one x r R p p' missing m) e

  call_made : (f : Function) (q : Rule) → call_rule b (suc m) f ≡ some q → Made missing x (call_arm f) (suc m) q
  call_made Exp q e = simple (call_arm Exp) _ q (λ m. refl) (λ m. refl) e
  call_made Log q e = simple (call_arm Log) _ q (λ m. refl) (λ m. refl) e
  call_made Log10 q e = simple (call_arm Log10) _ q (λ m. refl) (λ m. refl) e
  call_made Sqrt q e = simple (call_arm Sqrt) _ q (λ m. refl) (λ m. refl) e
  call_made Sin q e = simple (call_arm Sin) _ q (λ m. refl) (λ m. refl) e
  call_made Cos q e = simple (call_arm Cos) _ q (λ m. refl) (λ m. refl) e
  call_made Tan q e = simple (call_arm Tan) _ q (λ m. refl) (λ m. refl) e
  call_made Tanh q e = simple (call_arm Tanh) _ q (λ m. refl) (λ m. refl) e
  call_made Abs q e = simple (call_arm Abs) _ q (λ m. refl) (λ m. refl) e
  call_made Floor q e = none_some e
  call_made Ceil q e = none_some e
  call_made Min q e = made missing x (call_arm Min) (suc m) (extremum_from 0 m) q (extremum_written missing x (suc m) 0 m (omega arith)) e
  call_made Max q e = made missing x (call_arm Max) (suc m) (extremum_from 0 m) q (extremum_written missing x (suc m) 0 m (omega arith)) e
  call_made Hill q e = made missing x (call_arm Hill) (suc m) (hill_rule b) q (hill_written x b missing m) e
  call_made InverseGaussianDensity q e = simple (call_arm InverseGaussianDensity) _ q (λ m. refl) (λ m. refl) e

  binary_made : (o : Binary) → Enough missing (binary_arm o) (suc m) → Made missing x (binary_arm o) (suc m) (binary_rule o x)
  binary_made Add h = inl (of_two x (binary_arm Add) (binary_rule Add x) (λ m. refl) (λ m. refl) missing m h)
  binary_made Subtract h = inl (of_two x (binary_arm Subtract) (binary_rule Subtract x) (λ m. refl) (λ m. refl) missing m h)
  binary_made Multiply h = inl (of_two x (binary_arm Multiply) (binary_rule Multiply x) (λ m. refl) (λ m. refl) missing m h)
  binary_made Divide h = inl (of_two x (binary_arm Divide) (binary_rule Divide x) (λ m. refl) (λ m. refl) missing m h)
  binary_made Power h = power_made missing m x
  binary_made Modulo h = inl (of_two x (binary_arm Modulo) (binary_rule Modulo x) (λ m. refl) (λ m. refl) missing m h)

  operation_made : (o : Operation) (q : Rule) → Enough missing (operation_arm o) (suc m) → operation_rule b (suc m) x o ≡ some q
      → Made missing x (operation_arm o) (suc m) q
  operation_made (unary Positive) q h e = simple (operation_arm (unary Positive)) _ q (λ m. refl) (λ m. refl) e
  operation_made (unary Negative) q h e = simple (operation_arm (unary Negative)) _ q (λ m. refl) (λ m. refl) e
  operation_made (unary Not) q h e = none_some e
  operation_made (binary o) q h e = let p : binary_rule o x ≡ q = cc in rw (← p) (binary_made o h)
  operation_made (compare o) q h e = none_some e
  operation_made (call f) q h e = call_made f q e

  branch_made : (r : ℕ) (moving : Bool) (q : Rule) → written (writes_by missing x r) (suc m) choice ≡ true
      → branch_rule moving ≡ some q → Made missing x r (suc m) q
  branch_made r true q t e = none_some e
  branch_made r false q t e = made missing x r (suc m) choice q t e

  -- the rule of a node with children
  pub rule_made : (moving : Bool) (h : Head) (q : Rule) → Enough missing (arm h) (suc m) → rule_of b moving (suc m) x h ≡ some q
      → Made missing x (arm h) (suc m) q
  rule_made moving (symbol i) q h e = made missing x (arm (symbol i)) (suc m) 1·0 q refl e
  rule_made moving (operation o) q h e = operation_made o q h e
  rule_made moving conditional q h e =
      branch_made (arm conditional) moving q (of_three x (arm conditional) choice (λ m. refl) (λ m. refl) missing m h) e
  rule_made moving ifelse q h e = branch_made (arm ifelse) moving q (of_three x (arm ifelse) choice (λ m. refl) (λ m. refl) missing m h) e
  rule_made moving (number c) q h e = none_some e
  rule_made moving (truth c) q h e = none_some e
  rule_made moving (junction j) q h e = none_some e
  rule_made moving malformed q h e = none_some e

-- of a symbol
pub symbol_made : (missing : Bool) (x : Option ℕ) (n : ℕ) (q : Rule) → some 1·0 ≡ some q → Made missing x 1 n q
symbol_made missing x n q e = made missing x 1 n 1·0 q refl e
