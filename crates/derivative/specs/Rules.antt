-- The rules of `derivative.rs`, as templates over a node, its children and its children's derivatives. "Only a literal zero (of either sign) beside Add,
-- a literal zero or one beside Multiply, and the powers 0 and 1 that the rules themselves write are simplified."
use Rattle.std.specs.Prelude.{Bool, true, false, cond, ◌||◌, List, [], ◌∷◌, ℕ, zero, suc, get_or, eqb}
use Rattle.std.proofs.Math.Option.{Option, none, some}
use Rattle.std.specs.Float.{binary64}
use Rattle.std.specs.Float.Ieee.{of_bits, to_bits}
use Rattle.std.specs.Float.Ieee
use Rattle.arithmetic.specs.Constant.{ln_ten_bits}
use Rattle.formula.specs.Operator.{Operation, unary, binary, compare, call, Positive, Negative, Not, Binary, Add, Subtract, Multiply, Divide, Power, Modulo, Compare, Lt, Gt, Eq, Function, Exp, Log, Log10, Sqrt, Sin, Cos, Tan, Tanh, Abs, Floor, Ceil, Min, Max, Hill, InverseGaussianDensity}
use Rattle.formula.specs.Formula.{Head, number, truth, symbol, operation, junction, ifelse, conditional, malformed}

mutual
  pub data Rule : Type 0 where
    -- a copy of child i
    child : ℕ → Rule
    -- a copy of the node itself
    whole : Rule
    -- the derivative of child i
    diff : ℕ → Rule
    -- a new node
    make : Head → Rules → Rule
    -- Rust's `add` and `mul`, which simplify
    add : Rule → Rule → Rule
    mul : Rule → Rule → Rule
    -- the literal 0 where the derivative of child i is a literal zero, else the rule
    unless_zero : ℕ → Rule → Rule
    -- the literal 1 that `power` writes for the power 0
    zeroth : Rule

  pub data Rules : Type 0 where
    end : Rules
    ◌and◌ : Rule → Rules → Rules

infixr 50 ◌and◌
-- ---- a rule's instance

-- what a rule is instantiated over: formulas, or attributes of formulas
pub record Algebra (A : Type 0) : Type 0 where
  pub node : Head → List A → A
  -- the literal 0 that `mul` writes beside a zero, and the literal 1 that `power` writes for the power 0
  pub zero_product : A
  pub zeroth_power : A
  pub is_zero : A → Bool
  pub is_one : A → Bool

pub record Parts (A : Type 0) : Type 0 where
  pub own : A
  pub children : List A
  pub diffs : List A

abbrev pub zero_of : {A : Type 0} → Algebra A → A
zero_of G = G.node (number 0) []

-- "a literal zero (of either sign) beside Add"
abbrev pub add_of : {A : Type 0} → Algebra A → A → A → A
add_of G a b = cond (G.is_zero a) b (cond (G.is_zero b) a (G.node (operation (binary Add)) (a ∷ b ∷ [])))

-- "a literal zero or one beside Multiply"
abbrev pub mul_of : {A : Type 0} → Algebra A → A → A → A
mul_of G a b =
    cond (G.is_zero a || G.is_zero b) G.zero_product
    (cond (G.is_one a) b (cond (G.is_one b) a (G.node (operation (binary Multiply)) (a ∷ b ∷ []))))

abbrev mutual
  pub instance : {A : Type 0} → Algebra A → Parts A → Rule → A
  instance G e (child i) = get_or e.children i (zero_of G)
  instance G e whole = e.own
  instance G e (diff i) = get_or e.diffs i (zero_of G)
  instance G e (make h rs) = G.node h (instances G e rs)
  instance G e (add a b) = add_of G (instance G e a) (instance G e b)
  instance G e (mul a b) = mul_of G (instance G e a) (instance G e b)
  instance G e (unless_zero i r) = cond (G.is_zero (get_or e.diffs i (zero_of G))) (zero_of G) (instance G e r)
  instance G e zeroth = G.zeroth_power

  pub instances : {A : Type 0} → Algebra A → Parts A → Rules → List A
  instances G e end = []
  instances G e (r and rs) = instance G e r ∷ instances G e rs

-- ---- literals, by their bits

abbrev pub zero_bits : ℕ → Bool
zero_bits b = eqb b 0 || eqb b 0x8000000000000000

abbrev pub one_bits : ℕ → Bool
one_bits b = eqb b 0x3ff0000000000000

-- n - 1.0
unfoldable pub less_one : ℕ → ℕ
less_one n = to_bits binary64 (Ieee.sub binary64 (of_bits binary64 n) (of_bits binary64 0x3ff0000000000000))

abbrev pub lit : ℕ → Rule
lit b = make (number b) end

abbrev pub 0·0 : Rule
0·0 = lit 0

abbrev pub 1·0 : Rule
1·0 = lit 0x3ff0000000000000

abbrev pub 2·0 : Rule
2·0 = lit 0x4000000000000000

abbrev pub 3·0 : Rule
3·0 = lit 0x4008000000000000

abbrev pub 0·5 : Rule
0·5 = lit 0x3fe0000000000000

abbrev pub 1·5 : Rule
1·5 = lit 0x3ff8000000000000

abbrev pub -1·0 : Rule
-1·0 = lit 0xbff0000000000000

abbrev pub 1e-8 : Rule
1e-8 = lit 0x3e45798ee2308c3a

-- ---- the helpers of derivative.rs

abbrev pub neg : Rule → Rule
neg a = mul -1·0 a

abbrev pub sub : Rule → Rule → Rule
sub a b = add a (neg b)

abbrev pub binary_of : Binary → Rule → Rule → Rule
binary_of o a b = make (operation (binary o)) (a and b and end)

abbrev pub div : Rule → Rule → Rule
div a b = binary_of Divide a b

-- "the powers 0 and 1 that the rules themselves write"
abbrev pub power : Rule → ℕ → Rule
power a n = cond (one_bits n) a (cond (zero_bits n) zeroth (binary_of Power a (lit n)))

abbrev pub square : Rule → Rule
square a = binary_of Power a 2·0

abbrev pub call_of : Function → Rule → Rule
call_of f a = make (operation (call f)) (a and end)

abbrev pub compare_of : Compare → Rule → Rule → Rule
compare_of o a b = make (operation (compare o)) (a and b and end)

abbrev pub branch : Rule → Rule → Rule → Rule
branch c y n = make conditional (c and y and n and end)

abbrev pub hill : Rule → Rule → Rule → Rule
hill x n k = make (operation (call Hill)) (x and n and k and end)

-- ---- the rules, in the order of the arms of `differentiate`

-- the exponent's bits where it is a literal
abbrev pub power_rule : Option ℕ → Rule
power_rule (some n) = mul (mul (lit n) (power (child 0) (less_one n))) (diff 0)
power_rule none =
    let a = child 0 in
    let b = child 1 in
    add
    (unless_zero 0
    (branch (compare_of Eq b 0·0) 0·0
    (branch (compare_of Eq b 1·0) (diff 0) (mul (mul b (binary_of Power a (sub b 1·0))) (diff 0)))))
    (unless_zero 1 (branch (compare_of Eq a 0·0) 0·0 (mul (mul whole (call_of Log a)) (diff 1))))

abbrev pub binary_rule : Binary → Option ℕ → Rule
binary_rule Add n = add (diff 0) (diff 1)
binary_rule Subtract n = sub (diff 0) (diff 1)
binary_rule Multiply n = add (mul (diff 0) (child 1)) (mul (child 0) (diff 1))
binary_rule Divide n = div (sub (mul (diff 0) (child 1)) (mul (child 0) (diff 1))) (square (child 1))
binary_rule Power n = power_rule n
binary_rule Modulo n = add (div 0·0 whole) (sub (diff 0) (mul (call_of Floor (div (child 0) (child 1))) (diff 1)))

-- a condition that has the symbol is 8
abbrev pub branch_rule : Bool → Option Rule
branch_rule true = none
branch_rule false = some (branch (child 0) (diff 1) (diff 2))

-- the derivative of the first argument that equals the extremum: arguments i to i + left
abbrev pub extremum_from : ℕ → ℕ → Rule
extremum_from i zero = diff i
extremum_from i (suc left) = branch (compare_of Eq (child i) whole) (diff i) (extremum_from (suc i) left)

abbrev pub extremum_rule : ℕ → Option Rule
extremum_rule zero = none
extremum_rule (suc left) = some (extremum_from 0 left)

abbrev pub abs_rule : Rule
abs_rule = branch (compare_of Gt (child 0) 0·0) (diff 0) (branch (compare_of Lt (child 0) 0·0) (neg (diff 0)) 0·0)

abbrev pub density_rule : Rule
density_rule =
    let x = child 0 in
    let mean = child 1 in
    let shape = child 2 in
    let delta = sub x mean in
    let time_score = add (neg (div 1·5 x)) (mul 0·5 (sub (div shape (square x)) (div shape (square mean)))) in
    let mean_score = div (mul shape delta) (binary_of Power mean 3·0) in
    let shape_score = sub (div 0·5 shape) (div (square delta) (mul 2·0 (mul (square mean) x))) in
    let score = add (add (mul time_score (diff 0)) (mul mean_score (diff 1))) (mul shape_score (diff 2)) in
    branch (compare_of Gt whole 0·0) (mul whole score) 0·0

-- Hill's slope at a
abbrev pub slope : Rule → Rule
slope a =
    let n = child 1 in
    let k = child 2 in
    mul (mul (div (hill a n k) a) (hill k n a)) n

-- at x = 0, by a state or not
abbrev pub hill_boundary : Bool → Rule
hill_boundary true =
    let n = child 1 in
    let k = child 2 in
    branch (compare_of Gt n 1·0) 0·0 (branch (compare_of Eq n 1·0) (div (diff 0) k) (mul (slope (mul 1e-8 k)) (diff 0)))
hill_boundary false = branch (compare_of Gt (child 1) 1·0) 0·0 (div 1·0 0·0)

abbrev pub hill_rule : Bool → Rule
hill_rule by_state =
    let x = child 0 in
    let n = child 1 in
    let k = child 2 in
    let complement = hill k n x in
    let positive =
    add (mul (slope x) (diff 0))
    (add (mul (mul (mul whole complement) (sub (call_of Log x) (call_of Log k))) (diff 1))
    (neg (mul (mul (mul (div whole k) complement) n) (diff 2)))) in
    branch (compare_of Gt x 0·0) positive (branch (compare_of Lt x 0·0) 0·0 (unless_zero 0 (hill_boundary by_state)))

-- the calls with one argument: a factor times its derivative
abbrev pub chain_rule : Rule → Option Rule
chain_rule factor = some (mul factor (diff 0))

abbrev pub call_rule : Bool → ℕ → Function → Option Rule
call_rule by_state n Min = extremum_rule n
call_rule by_state n Max = extremum_rule n
call_rule by_state n Abs = some abs_rule
call_rule by_state n InverseGaussianDensity = some density_rule
call_rule by_state n Hill = some (hill_rule by_state)
call_rule by_state n Exp = chain_rule whole
call_rule by_state n Log = chain_rule (div 1·0 (child 0))
call_rule by_state n Log10 = chain_rule (div 1·0 (mul (child 0) (lit ln_ten_bits)))
call_rule by_state n Sqrt = chain_rule (div 1·0 (mul 2·0 whole))
call_rule by_state n Sin = chain_rule (call_of Cos (child 0))
call_rule by_state n Cos = chain_rule (neg (call_of Sin (child 0)))
call_rule by_state n Tan = chain_rule (div 1·0 (square (call_of Cos (child 0))))
call_rule by_state n Tanh = chain_rule (sub 1·0 (square whole))
call_rule by_state n Floor = none
call_rule by_state n Ceil = none

abbrev pub operation_rule : Bool → ℕ → Option ℕ → Operation → Option Rule
operation_rule by_state n exponent (unary Positive) = some (diff 0)
operation_rule by_state n exponent (unary Negative) = some (neg (diff 0))
operation_rule by_state n exponent (unary Not) = none
operation_rule by_state n exponent (binary o) = some (binary_rule o exponent)
operation_rule by_state n exponent (compare o) = none
operation_rule by_state n exponent (call f) = call_rule by_state n f

-- The rule of a node that has the symbol, chosen by five facts: whether the symbol is a state; whether the first child has it; how many children there
-- are; the second child's bits where it is a literal; and the head. None is 8.
abbrev pub rule_of : Bool → Bool → ℕ → Option ℕ → Head → Option Rule
rule_of by_state moving n exponent (symbol i) = some 1·0
rule_of by_state moving n exponent (operation o) = operation_rule by_state n exponent o
rule_of by_state moving n exponent conditional = branch_rule moving
rule_of by_state moving n exponent ifelse = branch_rule moving
rule_of by_state moving n exponent (number b) = none
rule_of by_state moving n exponent (truth b) = none
rule_of by_state moving n exponent (junction j) = none
rule_of by_state moving n exponent malformed = none
