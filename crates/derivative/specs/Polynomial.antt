-- "Take formulas of Add, Subtract, Multiply, Positive, Negative, symbols and whole-number literals, read over whole numbers without rounding." (document 02, slip 13)
use Rattle.std.specs.Prelude.{◌≡◌, Bool, true, false, cond, ◌&&◌, List, [], ◌∷◌, ℕ, eqb, ℤ, neg_ℤ, ◌+ℤ◌, ◌-ℤ◌, ◌*ℤ◌}
use Rattle.std.proofs.Math.Option.{Option, none, some}
use Rattle.arithmetic.specs.Value.{whole, integer_of}
use Rattle.arithmetic.specs.Constant.{literal}
use Rattle.formula.specs.Operator.{Operation, unary, binary, compare, call, Positive, Negative, Not, Add, Subtract, Multiply, Divide, Power, Modulo, arity}
use Rattle.formula.specs.Formula.{Head, number, truth, symbol, operation, junction, ifelse, conditional, malformed, Formula, Formulas, node, last, next, count}
use Rattle.derivative.specs.Differentiate.{and_then}

-- ---- plain formulas

abbrev pub plain_operation : Operation → Bool
plain_operation (unary Positive) = true
plain_operation (unary Negative) = true
plain_operation (unary Not) = false
plain_operation (binary Add) = true
plain_operation (binary Subtract) = true
plain_operation (binary Multiply) = true
plain_operation (binary Divide) = false
plain_operation (binary Power) = false
plain_operation (binary Modulo) = false
plain_operation (compare o) = false
plain_operation (call f) = false

-- a head with n children
abbrev pub plain_head : Head → ℕ → Bool
plain_head (number b) n = whole (literal b) && eqb n 0
plain_head (truth b) n = false
plain_head (symbol i) n = eqb n 0
plain_head (operation o) n = plain_operation o && arity o n
plain_head (junction j) n = false
plain_head ifelse n = false
plain_head conditional n = false
plain_head malformed n = false

abbrev mutual
  pub plain : Formula → Bool
  plain (node h ts) = plain_head h (count ts) && all_plain ts

  pub all_plain : Formulas → Bool
  all_plain last = true
  all_plain (next t ts) = plain t && all_plain ts

-- ---- their value

-- "every setting of the symbols": a whole number for each symbol number
abbrev pub Setting : Type 0
Setting = ℕ → ℤ

-- of no number, of one, of two
abbrev pub of_none : Option ℤ → List ℤ → Option ℤ
of_none z [] = z
of_none z (a ∷ as') = none

abbrev pub of_one : (ℤ → ℤ) → List ℤ → Option ℤ
of_one f [] = none
of_one f (a ∷ []) = some (f a)
of_one f (a ∷ b ∷ bs) = none

abbrev pub of_two : (ℤ → ℤ → ℤ) → List ℤ → Option ℤ
of_two f [] = none
of_two f (a ∷ []) = none
of_two f (a ∷ b ∷ []) = some (f a b)
of_two f (a ∷ b ∷ c ∷ cs) = none

abbrev pub exact_operation : Operation → List ℤ → Option ℤ
exact_operation (unary Positive) xs = of_one (λ a. a) xs
exact_operation (unary Negative) xs = of_one neg_ℤ xs
exact_operation (unary Not) xs = none
exact_operation (binary Add) xs = of_two ◌+ℤ◌ xs
exact_operation (binary Subtract) xs = of_two ◌-ℤ◌ xs
exact_operation (binary Multiply) xs = of_two ◌*ℤ◌ xs
exact_operation (binary Divide) xs = none
exact_operation (binary Power) xs = none
exact_operation (binary Modulo) xs = none
exact_operation (compare o) xs = none
exact_operation (call f) xs = none

-- a head over its children's values
abbrev pub exact_head : Setting → Head → List ℤ → Option ℤ
exact_head σ (number b) xs = of_none (integer_of (literal b)) xs
exact_head σ (truth b) xs = none
exact_head σ (symbol i) xs = of_none (some (σ i)) xs
exact_head σ (operation o) xs = exact_operation o xs
exact_head σ (junction j) xs = none
exact_head σ ifelse xs = none
exact_head σ conditional xs = none
exact_head σ malformed xs = none

-- "read over whole numbers without rounding"; none where it is not plain, so that nothing is read by default
abbrev mutual
  pub exact : Setting → Formula → Option ℤ
  exact σ (node h ts) = and_then (all_exact σ ts) (λ xs. exact_head σ h xs)

  pub all_exact : Setting → Formulas → Option (List ℤ)
  all_exact σ last = some []
  all_exact σ (next t ts) = and_then (exact σ t) (λ x. and_then (all_exact σ ts) (λ xs. some (x ∷ xs)))

-- ---- their rates

-- "with h added to the chosen symbol"
abbrev pub shifted : ℕ → ℤ → Setting → Setting
shifted s h σ i = cond (eqb i s) (σ i +ℤ h) (σ i)

-- "the formula with h added to the chosen symbol, less the formula, less h times the derivative tree's value, is a multiple of h squared"
pub record Rate (s : ℕ) (σ : Setting) (h : ℤ) (f d : Formula) : Type 0 where
  pub moved : ℤ
  pub value : ℤ
  pub slope : ℤ
  pub multiple : ℤ
  pub moved_is : exact (shifted s h σ) f ≡ some moved
  pub value_is : exact σ f ≡ some value
  pub slope_is : exact σ d ≡ some slope
  pub left : moved -ℤ value -ℤ h *ℤ slope ≡ multiple *ℤ (h *ℤ h)

-- "for every setting of the symbols and every whole h"
abbrev pub ExactRate : ℕ → Formula → Formula → Type 0
ExactRate s f d = (σ : Setting) (h : ℤ) → Rate s σ h f d
