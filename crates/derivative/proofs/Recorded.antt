-- Records of derivatives, worked out: the records and nodes of whole derivatives, in byte order.
use mathlib.Core.Path.{◌≡◌, refl}
use mathlib.Core.Bool.{Bool, true, false}
use mathlib.Core.List.{List, [], ◌∷◌, ◌++◌, map}
use mathlib.Core.Option.{Option, none, some}
use Prim.Native.Nat.{ℕ, ◌+◌}
use lib.ListN.{drop}
use lib.Ieee.{of_bits, to_bits, round, sub}
use Rattle.arithmetic.specs.Constant.{ln_ten_bits}
use Rattle.formula.specs.Operator.{Binary, Compare, Function, unary, binary, compare, call, Positive, Negative, Add, Subtract, Multiply, Divide, Power, Modulo, Lt, Gt, Eq, Exp, Log, Log10, Sqrt, Sin, Cos, Tan, Tanh, Abs, Min, Hill, InverseGaussianDensity}
use Rattle.formula.specs.Formula.{Head, number, symbol, operation, ifelse, conditional, Formula, node, last, next, size}
use Rattle.derivative.specs.Rules.{less_one}
use Rattle.derivative.specs.Records.{Record, Recorded, by_rule, erase, recorded_derivative, derivative_records, record_bytes, list_bytes}
use Rattle.derivative.specs.Provenance.{root_head, subtrees, top}

-- a node of the derivative and its record
abbrev Line : Type 0
Line = Head × Record

-- node, rule and formula node
abbrev line : Head → ℕ → ℕ → Line
line h r k = (h, by_rule r k)

-- a copy of the formula's node k
abbrev same : Head → ℕ → Line
same h k = line h 0 k

abbrev lines_of : Option Recorded → List Line
lines_of none = []
lines_of (some D) = map (λ t. (root_head (erase t), top t)) (subtrees D)

-- of the whole derivative by symbol s; and without the three outer nodes and the formula's copy, by symbol 0
abbrev whole : ℕ → Formula → List Line
whole s f = lines_of (recorded_derivative s false f)

abbrev inside : Bool → Formula → List Line
inside by_state f = drop (3 + size f) (lines_of (recorded_derivative 0 by_state f))

-- ---- formulas

abbrev two : Binary → Head
two o = operation (binary o)

abbrev test : Compare → Head
test o = operation (compare o)

abbrev of : Function → Head
of f = operation (call f)

abbrev positive : Head
positive = operation (unary Positive)

abbrev negative : Head
negative = operation (unary Negative)

abbrev a : Head
a = symbol 0

abbrev b : Head
b = symbol 1

abbrev c : Head
c = symbol 2

abbrev 0·0 : Head
0·0 = number 0

abbrev 1·0 : Head
1·0 = number 0x3ff0000000000000

abbrev 2·0 : Head
2·0 = number 0x4000000000000000

abbrev 3·0 : Head
3·0 = number 0x4008000000000000

abbrev 0·5 : Head
0·5 = number 0x3fe0000000000000

abbrev 1·5 : Head
1·5 = number 0x3ff8000000000000

abbrev -1·0 : Head
-1·0 = number 0xbff0000000000000

abbrev 1e-8 : Head
1e-8 = number 0x3e45798ee2308c3a

abbrev leaf : Head → Formula
leaf h = node h last

abbrev one_of : Head → Formula → Formula
one_of h x = node h (next x last)

abbrev two_of : Head → Formula → Formula → Formula
two_of h x y = node h (next x (next y last))

abbrev three_of : Head → Formula → Formula → Formula → Formula
three_of h x y z = node h (next x (next y (next z last)))

-- ---- 01's trip: 0 Add, 1 climb, 2 Divide, 3 Multiply, 4 burn, 5 distance, 6 Add, 7 tas, 8 wind

abbrev climb : Head
climb = symbol 0

abbrev burn : Head
burn = symbol 1

abbrev distance : Head
distance = symbol 2

abbrev tas : Head
tas = symbol 3

abbrev wind : Head
wind = symbol 4

abbrev trip : Formula
trip =
    two_of (two Add) (leaf climb)
    (two_of (two Divide) (two_of (two Multiply) (leaf burn) (leaf distance)) (two_of (two Add) (leaf tas) (leaf wind)))

-- 0 × trip, in both
abbrev trip_copied : List Line
trip_copied =
    line (two Add) 27 0
    ∷ line (two Multiply) 27 0
    ∷ line 0·0 27 0
    ∷ same (two Add) 0
    ∷ same climb 1
    ∷ same (two Divide) 2
    ∷ same (two Multiply) 3
    ∷ same burn 4
    ∷ same distance 5
    ∷ same (two Add) 6
    ∷ same tas 7
    ∷ same wind 8
    ∷ []

-- the derivative of node 3 is burn, let through: it keeps its record
pub trip_by_distance : whole 2 trip
    ≡ trip_copied
    ++ line (two Divide) 7 2
    ∷ line (two Multiply) 7 2
    ∷ same burn 4
    ∷ same (two Add) 6
    ∷ same tas 7
    ∷ same wind 8
    ∷ line (two Power) 7 2
    ∷ same (two Add) 6
    ∷ same tas 7
    ∷ same wind 8
    ∷ line 2·0 7 2
    ∷ []
trip_by_distance = refl

pub trip_by_tas : whole 3 trip
    ≡ trip_copied
    ++ line (two Divide) 7 2
    ∷ line (two Multiply) 7 2
    ∷ line -1·0 7 2
    ∷ same (two Multiply) 3
    ∷ same burn 4
    ∷ same distance 5
    ∷ line (two Power) 7 2
    ∷ same (two Add) 6
    ∷ same tas 7
    ∷ same wind 8
    ∷ line 2·0 7 2
    ∷ []
trip_by_tas = refl

-- ---- by a, where b and c are no states

abbrev cube : Formula
cube = two_of (two Power) (leaf a) (leaf 3·0)

-- Power(a, 3). The exponent is written anew
pub power_of_three : inside false cube ≡ line (two Multiply) 8 0 ∷ line 3·0 8 0 ∷ line (two Power) 8 0 ∷ same a 1 ∷ line 2·0 8 0 ∷ []
unfolding less_one of_bits to_bits round sub
power_of_three = refl

-- its whole list: 88 bytes
pub power_bytes : list_bytes (derivative_records 0 false cube)
    ≡ 0x1b ∷ 0 ∷ 0 ∷ 0 ∷ 0 ∷ 0 ∷ 0 ∷ 0
    ∷ 0x1b ∷ 0 ∷ 0 ∷ 0 ∷ 0 ∷ 0 ∷ 0 ∷ 0
    ∷ 0x1b ∷ 0 ∷ 0 ∷ 0 ∷ 0 ∷ 0 ∷ 0 ∷ 0
    ∷ 0 ∷ 0 ∷ 0 ∷ 0 ∷ 0 ∷ 0 ∷ 0 ∷ 0
    ∷ 0 ∷ 0 ∷ 0 ∷ 0 ∷ 1 ∷ 0 ∷ 0 ∷ 0
    ∷ 0 ∷ 0 ∷ 0 ∷ 0 ∷ 2 ∷ 0 ∷ 0 ∷ 0
    ∷ 8 ∷ 0 ∷ 0 ∷ 0 ∷ 0 ∷ 0 ∷ 0 ∷ 0
    ∷ 8 ∷ 0 ∷ 0 ∷ 0 ∷ 0 ∷ 0 ∷ 0 ∷ 0
    ∷ 8 ∷ 0 ∷ 0 ∷ 0 ∷ 0 ∷ 0 ∷ 0 ∷ 0
    ∷ 0 ∷ 0 ∷ 0 ∷ 0 ∷ 1 ∷ 0 ∷ 0 ∷ 0
    ∷ 8 ∷ 0 ∷ 0 ∷ 0 ∷ 0 ∷ 0 ∷ 0 ∷ 0
    ∷ []
unfolding less_one of_bits to_bits round sub derivative_records list_bytes record_bytes
power_bytes = refl

-- Power(a, b). The 1 is a's derivative
pub power_of_b : inside false (two_of (two Power) (leaf a) (leaf b))
    ≡ line conditional 8 0
    ∷ line (test Eq) 8 0
    ∷ same b 2
    ∷ line 0·0 8 0
    ∷ line 0·0 8 0
    ∷ line conditional 8 0
    ∷ line (test Eq) 8 0
    ∷ same b 2
    ∷ line 1·0 8 0
    ∷ line 1·0 1 1
    ∷ line (two Multiply) 8 0
    ∷ same b 2
    ∷ line (two Power) 8 0
    ∷ same a 1
    ∷ line (two Add) 8 0
    ∷ same b 2
    ∷ line -1·0 8 0
    ∷ []
power_of_b = refl

-- Min(a, b). The Min in the test is a copy; the 0 is for b, which lacks the symbol
pub min_of_two : inside false (two_of (of Min) (leaf a) (leaf b))
    ≡ line conditional 12 0
    ∷ line (test Eq) 12 0
    ∷ same a 1
    ∷ same (of Min) 0
    ∷ same a 1
    ∷ same b 2
    ∷ line 1·0 1 1
    ∷ line 0·0 26 2
    ∷ []
min_of_two = refl

-- Hill(a, b, c): where a > 0, below, and at 0 up to the last arm, by a state or not
abbrev hill : Formula
hill = three_of (of Hill) (leaf a) (leaf b) (leaf c)

abbrev hill_lines : List Line
hill_lines =
    line conditional 15 0
    ∷ line (test Gt) 15 0
    ∷ same a 1
    ∷ line 0·0 15 0
    ∷ line (two Multiply) 15 0
    ∷ line (two Multiply) 15 0
    ∷ line (two Divide) 15 0
    ∷ line (of Hill) 15 0
    ∷ same a 1
    ∷ same b 2
    ∷ same c 3
    ∷ same a 1
    ∷ line (of Hill) 15 0
    ∷ same c 3
    ∷ same b 2
    ∷ same a 1
    ∷ same b 2
    ∷ line conditional 15 0
    ∷ line (test Lt) 15 0
    ∷ same a 1
    ∷ line 0·0 15 0
    ∷ line 0·0 15 0
    ∷ line conditional 15 0
    ∷ line (test Gt) 15 0
    ∷ same b 2
    ∷ line 1·0 15 0
    ∷ line 0·0 15 0
    ∷ []

pub hill_by_parameter : inside false hill ≡ hill_lines ++ line (two Divide) 15 0 ∷ line 1·0 15 0 ∷ line 0·0 15 0 ∷ []
hill_by_parameter = refl

-- 1e-8 × c
abbrev small : List Line
small = line (two Multiply) 15 0 ∷ line 1e-8 15 0 ∷ same c 3 ∷ []

pub hill_by_state : inside true hill
    ≡ hill_lines
    ++ (line conditional 15 0
    ∷ line (test Eq) 15 0
    ∷ same b 2
    ∷ line 1·0 15 0
    ∷ line (two Divide) 15 0
    ∷ line 1·0 1 1
    ∷ same c 3
    ∷ line (two Multiply) 15 0
    ∷ line (two Multiply) 15 0
    ∷ line (two Divide) 15 0
    ∷ line (of Hill) 15 0
    ∷ [])
    ++ small
    ++ (same b 2 ∷ same c 3 ∷ [])
    ++ small
    ++ (line (of Hill) 15 0 ∷ same c 3 ∷ same b 2 ∷ [])
    ++ small
    ++ (same b 2 ∷ [])
hill_by_state = refl

-- InverseGaussianDensity(a, b, c)
abbrev density_copied : List Line
density_copied = same (of InverseGaussianDensity) 0 ∷ same a 1 ∷ same b 2 ∷ same c 3 ∷ []

pub density : inside false (three_of (of InverseGaussianDensity) (leaf a) (leaf b) (leaf c))
    ≡ (line conditional 14 0 ∷ line (test Gt) 14 0 ∷ [])
    ++ density_copied
    ++ (line 0·0 14 0 ∷ line (two Multiply) 14 0 ∷ [])
    ++ density_copied
    ++ line (two Add) 14 0
    ∷ line (two Multiply) 14 0
    ∷ line -1·0 14 0
    ∷ line (two Divide) 14 0
    ∷ line 1·5 14 0
    ∷ same a 1
    ∷ line (two Multiply) 14 0
    ∷ line 0·5 14 0
    ∷ line (two Add) 14 0
    ∷ line (two Divide) 14 0
    ∷ same c 3
    ∷ line (two Power) 14 0
    ∷ same a 1
    ∷ line 2·0 14 0
    ∷ line (two Multiply) 14 0
    ∷ line -1·0 14 0
    ∷ line (two Divide) 14 0
    ∷ same c 3
    ∷ line (two Power) 14 0
    ∷ same b 2
    ∷ line 2·0 14 0
    ∷ line 0·0 14 0
    ∷ []
density = refl

-- ---- zeros: 24 of `mul`, 26 of a part without the symbol, an arm's own

abbrev nothing : Formula
nothing = two_of (two Multiply) (leaf 0·0) (leaf a)

-- Abs(Multiply(0, a)): the product's zero at node 1, and another where it is negated, at node 0
pub abs_of_zero : inside false (one_of (of Abs) nothing)
    ≡ line conditional 13 0
    ∷ line (test Gt) 13 0
    ∷ same (two Multiply) 1
    ∷ same 0·0 2
    ∷ same a 3
    ∷ line 0·0 13 0
    ∷ line 0·0 24 1
    ∷ line conditional 13 0
    ∷ line (test Lt) 13 0
    ∷ same (two Multiply) 1
    ∷ same 0·0 2
    ∷ same a 3
    ∷ line 0·0 13 0
    ∷ line 0·0 24 0
    ∷ line 0·0 13 0
    ∷ []
abs_of_zero = refl

-- Subtract(b, Negative(a)): each arm writes its own -1
pub minus_minus : inside false (two_of (two Subtract) (leaf b) (one_of negative (leaf a)))
    ≡ line (two Multiply) 5 0 ∷ line -1·0 5 0 ∷ line -1·0 3 2 ∷ []
minus_minus = refl

-- Ifelse(Lt(b, 1), a, b)
pub choice : inside false (three_of ifelse (two_of (test Lt) (leaf b) (leaf 1·0)) (leaf a) (leaf b))
    ≡ line conditional 11 0 ∷ same (test Lt) 1 ∷ same b 2 ∷ same 1·0 3 ∷ line 1·0 1 4 ∷ line 0·0 26 5 ∷ []
choice = refl

-- Power(Multiply(0, a), b); Add(b, Multiply(0, a)); Add(Multiply(0, a), b), where `add` of two zeros lets the second through
pub lone_zeros :
    (inside false (two_of (two Power) nothing (leaf b)) ≡ line 0·0 8 0 ∷ [])
    × (inside false (two_of (two Add) (leaf b) nothing) ≡ line 0·0 24 2 ∷ [])
    × (inside false (two_of (two Add) nothing (leaf b)) ≡ line 0·0 26 4 ∷ [])
lone_zeros = (refl, refl, refl)

-- ---- the other arms, once each

-- Positive(a): a's derivative, let through; Negative(a): -1 × 1 lets the arm's -1 through
pub signs :
    (inside false (one_of positive (leaf a)) ≡ line 1·0 1 1 ∷ [])
    × (inside false (one_of negative (leaf a)) ≡ line -1·0 3 0 ∷ [])
signs = (refl, refl)

-- of a and a; of a and b; of a test of b
pub of_two :
    (inside false (two_of (two Add) (leaf a) (leaf a)) ≡ line (two Add) 4 0 ∷ line 1·0 1 1 ∷ line 1·0 1 2 ∷ [])
    × (inside false (two_of (two Multiply) (leaf a) (leaf a)) ≡ line (two Add) 6 0 ∷ same a 2 ∷ same a 1 ∷ [])
    × (inside false (two_of (two Divide) (leaf a) (leaf b)) ≡ line (two Divide) 7 0 ∷ same b 2 ∷ line (two Power) 7 0 ∷ same b 2 ∷ line 2·0 7 0 ∷ [])
    × (inside false (two_of (two Modulo) (leaf a) (leaf b))
    ≡ line (two Add) 9 0 ∷ line (two Divide) 9 0 ∷ line 0·0 9 0 ∷ same (two Modulo) 0 ∷ same a 1 ∷ same b 2 ∷ line 1·0 1 1 ∷ [])
    × (inside false (three_of conditional (two_of (test Lt) (leaf b) (leaf 1·0)) (leaf a) (leaf b))
    ≡ line conditional 10 0 ∷ same (test Lt) 1 ∷ same b 2 ∷ same 1·0 3 ∷ line 1·0 1 4 ∷ line 0·0 26 5 ∷ [])
of_two = (refl, refl, refl, refl, refl)

-- the functions of a: times a's derivative, which is 1
pub functions :
    (inside false (one_of (of Exp) (leaf a)) ≡ same (of Exp) 0 ∷ same a 1 ∷ [])
    × (inside false (one_of (of Log) (leaf a)) ≡ line (two Divide) 17 0 ∷ line 1·0 17 0 ∷ same a 1 ∷ [])
    × (inside false (one_of (of Log10) (leaf a))
    ≡ line (two Divide) 18 0 ∷ line 1·0 18 0 ∷ line (two Multiply) 18 0 ∷ same a 1 ∷ line (number ln_ten_bits) 18 0 ∷ [])
    × (inside false (one_of (of Sqrt) (leaf a))
    ≡ line (two Divide) 19 0 ∷ line 1·0 19 0 ∷ line (two Multiply) 19 0 ∷ line 2·0 19 0 ∷ same (of Sqrt) 0 ∷ same a 1 ∷ [])
    × (inside false (one_of (of Sin) (leaf a)) ≡ line (of Cos) 20 0 ∷ same a 1 ∷ [])
    × (inside false (one_of (of Cos) (leaf a)) ≡ line (two Multiply) 21 0 ∷ line -1·0 21 0 ∷ line (of Sin) 21 0 ∷ same a 1 ∷ [])
    × (inside false (one_of (of Tan) (leaf a))
    ≡ line (two Divide) 22 0 ∷ line 1·0 22 0 ∷ line (two Power) 22 0 ∷ line (of Cos) 22 0 ∷ same a 1 ∷ line 2·0 22 0 ∷ [])
    × (inside false (one_of (of Tanh) (leaf a))
    ≡ line (two Add) 23 0 ∷ line 1·0 23 0 ∷ line (two Multiply) 23 0 ∷ line -1·0 23 0 ∷ line (two Power) 23 0 ∷ same (of Tanh) 0 ∷ same a 1 ∷ line 2·0 23 0 ∷ [])
functions = (refl, refl, refl, refl, refl, refl, refl, refl)

-- Exp(Power(a, 2)): the product that the arm of Exp keeps is its own
pub of_a_square : inside false (one_of (of Exp) (two_of (two Power) (leaf a) (leaf 2·0)))
    ≡ line (two Multiply) 16 0
    ∷ same (of Exp) 0
    ∷ same (two Power) 1
    ∷ same a 2
    ∷ same 2·0 3
    ∷ line (two Multiply) 8 1
    ∷ line 2·0 8 1
    ∷ same a 2
    ∷ []
unfolding less_one of_bits to_bits round sub
of_a_square = refl

-- Power(a, 1): 1 × the 1 of `power` × 1, of which a's derivative is left
pub power_of_one : inside false (two_of (two Power) (leaf a) (leaf 1·0)) ≡ line 1·0 1 1 ∷ []
unfolding less_one of_bits to_bits round sub
power_of_one = refl
