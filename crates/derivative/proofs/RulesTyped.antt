-- Every rule is well typed.
use mathlib.Core.Path.{◌≡◌, refl}
use mathlib.Core.List.{List, [], ◌∷◌}
use mathlib.Core.Bool.{Bool, true, false, cond}
use mathlib.Core.Option.{Option, none, some}
use Prim.Native.Nat.{ℕ, zero, suc, ◌+◌, ◌<◌}
use native.Mathlib.Omega.{arith}
use lib.ListN.{replicate}
use lib.Dec.{eqb}
use lib.Ieee.{of_bits}
use borrow.Author.Tests.{eqb-true}
use Rattle.arithmetic.specs.Value.{finite}
use Rattle.arithmetic.specs.Constant
use Rattle.formula.specs.Operator.{Operation, unary, binary, compare, call, Positive, Negative, Not, Binary, Add, Subtract, Multiply, Divide, Power, Modulo, Function, Exp, Log, Log10, Sqrt, Sin, Cos, Tan, Tanh, Abs, Floor, Ceil, Min, Max, Hill, InverseGaussianDensity, ValueKind, Number, Boolean, argument_kind, arity}
use Rattle.derivative.specs.Rules.{Rule, child, diff, branch, 1·0, zero_bits, one_bits, less_one, power, power_rule, binary_rule, branch_rule, extremum_from, extremum_rule, density_rule, hill_rule, call_rule, operation_rule}
use Rattle.derivative.proofs.Faultless.{none_some}
use Rattle.derivative.proofs.Typing.{well_typed, kind_at}
use Rattle.derivative.proofs.LessOne.{less_one_finite}

abbrev pub numbers : ℕ → List ValueKind
numbers n = replicate n Number

abbrev pub FiniteLiteral : Option ℕ → Type 0
FiniteLiteral none = Unit {0}
FiniteLiteral (some b) = finite (Constant.literal b) ≡ true

-- a rule that is well typed over k Numbers, at a node that has k children
of_arity : (k : ℕ) (R : Rule) → well_typed (numbers k) Number R ≡ true → (n : ℕ) (r : Rule) → eqb n k ≡ true → some R ≡ some r
    → well_typed (numbers n) Number r ≡ true
of_arity k R f n r a e =
    let p : n ≡ k = eqb-true n k a in
    let q : R ≡ r = cc in
    rw (p, ← q) f

typed_cond : (ks : List ValueKind) (κ : ValueKind) (b : Bool) (r r' : Rule) → well_typed ks κ r ≡ true → well_typed ks κ r' ≡ true
    → well_typed ks κ (cond b r r') ≡ true
typed_cond ks κ true r r' e e' = e
typed_cond ks κ false r r' e e' = e'

one_typed : (ks : List ValueKind) → well_typed ks Number 1·0 ≡ true
unfolding of_bits
one_typed ks = refl

power_of_typed : (n : ℕ) → finite (Constant.literal n) ≡ true → well_typed (numbers 2) Number (power (child 0) n) ≡ true
power_of_typed n f =
    typed_cond (numbers 2) Number (one_bits n) _ _ refl (typed_cond (numbers 2) Number (zero_bits n) _ _ refl (rw f))

power_typed : (e : Option ℕ) → FiniteLiteral e → well_typed (numbers 2) Number (power_rule e) ≡ true
unfolding of_bits
power_typed none f = refl
power_typed (some n) f = rw (f, power_of_typed (less_one n) (less_one_finite n f))

number_at : (n i : ℕ) → i < n → kind_at (numbers n) i Number ≡ true
number_at zero i h = absurd (omega arith)
number_at (suc n) zero h = refl
number_at (suc n) (suc i) h = number_at n i (omega arith)

extremum_from_typed : (n i left : ℕ) → i + left < n → well_typed (numbers n) Number (extremum_from i left) ≡ true
extremum_from_typed n i zero h = number_at n i (omega arith)
extremum_from_typed n i (suc left) h = rw (number_at n i (omega arith), extremum_from_typed n (suc i) left (omega arith))

extremum_typed : (n : ℕ) (r : Rule) → extremum_rule n ≡ some r → well_typed (numbers n) Number r ≡ true
extremum_typed zero r e = none_some e
extremum_typed (suc left) r e = let q : extremum_from 0 left ≡ r = cc in rw (← q) (extremum_from_typed (suc left) 0 left (omega arith))

hill_typed : (by_state : Bool) → well_typed (numbers 3) Number (hill_rule by_state) ≡ true
unfolding of_bits
hill_typed true = refl
hill_typed false = refl

call_typed : (by_state : Bool) (n : ℕ) (f : Function) (r : Rule) → arity (call f) n ≡ true → call_rule by_state n f ≡ some r
    → well_typed (numbers n) Number r ≡ true
unfolding of_bits
call_typed b n Exp r a e = of_arity 1 _ refl n r a e
call_typed b n Log r a e = of_arity 1 _ refl n r a e
call_typed b n Log10 r a e = of_arity 1 _ refl n r a e
call_typed b n Sqrt r a e = of_arity 1 _ refl n r a e
call_typed b n Sin r a e = of_arity 1 _ refl n r a e
call_typed b n Cos r a e = of_arity 1 _ refl n r a e
call_typed b n Tan r a e = of_arity 1 _ refl n r a e
call_typed b n Tanh r a e = of_arity 1 _ refl n r a e
call_typed b n Abs r a e = of_arity 1 _ refl n r a e
call_typed b n Floor r a e = none_some e
call_typed b n Ceil r a e = none_some e
call_typed b n Min r a e = extremum_typed n r e
call_typed b n Max r a e = extremum_typed n r e
call_typed b n Hill r a e = of_arity 3 (hill_rule b) (hill_typed b) n r a e
call_typed b n InverseGaussianDensity r a e = of_arity 3 density_rule refl n r a e

binary_typed : (o : Binary) (e : Option ℕ) → FiniteLiteral e → well_typed (numbers 2) Number (binary_rule o e) ≡ true
unfolding of_bits
binary_typed Add e f = refl
binary_typed Subtract e f = refl
binary_typed Multiply e f = refl
binary_typed Divide e f = refl
binary_typed Power e f = power_typed e f
binary_typed Modulo e f = refl

pub operation_typed : (by_state : Bool) (n : ℕ) (e : Option ℕ) (o : Operation) (r : Rule) → arity o n ≡ true → FiniteLiteral e
    → operation_rule by_state n e o ≡ some r → (argument_kind o ≡ Number) × (well_typed (numbers n) Number r ≡ true)
unfolding of_bits
operation_typed b n e (unary Positive) r a f h = (refl, of_arity 1 _ refl n r a h)
operation_typed b n e (unary Negative) r a f h = (refl, of_arity 1 _ refl n r a h)
operation_typed b n e (unary Not) r a f h = none_some h
operation_typed b n e (binary o) r a f h = (refl, of_arity 2 (binary_rule o e) (binary_typed o e f) n r a h)
operation_typed b n e (compare c) r a f h = none_some h
operation_typed b n e (call g) r a f h = (refl, call_typed b n g r a h)

pub branch_typed : (moving : Bool) (r : Rule) → branch_rule moving ≡ some r → well_typed (Boolean ∷ Number ∷ Number ∷ []) Number r ≡ true
branch_typed true r h = none_some h
branch_typed false r h = let q : branch (child 0) (diff 1) (diff 2) ≡ r = cc in rw (← q)

pub symbol_typed : (ks : List ValueKind) (r : Rule) → some 1·0 ≡ some r → well_typed ks Number r ≡ true
symbol_typed ks r h = let q : 1·0 ≡ r = cc in rw (← q) (one_typed ks)
