-- "The source's tree decides; it parts from calculus at these places": the derivative's reading there.
use mathlib.Core.Path.{◌≡◌, refl}
use mathlib.Core.List.{List, [], ◌∷◌, map}
use mathlib.Core.Bool.{Bool, true, false}
use mathlib.Core.Option.{Option, none, some}
use Prim.Native.Nat.{ℕ}
use lib.Ieee.{Float, binary64, add, sub, mul, div, rem, neg, lt, le, eq, ne, of_bits, to_bits, round}
use Rattle.arithmetic.specs.Value.{whole, absolute}
use Rattle.arithmetic.specs.Constant
use Rattle.arithmetic.specs.Round.{floor}
use Rattle.arithmetic.specs.Extremum.{hold}
use Rattle.formula.specs.Operator.{Operation, binary, call, Power, Modulo, Abs, Max, Min, Hill, InverseGaussianDensity}
use Rattle.formula.specs.Formula.{Formula, node, last, symbol, operation, of_list}
use Rattle.formula.specs.Path.{root, ◌▸◌, argument, else_arm}
use Rattle.formula.specs.Term.{term}
use Rattle.meaning.specs.Work.{elementary, hill_work, density_work, density_cost}
use Rattle.meaning.specs.Reading.{Outcome, value, domain, question, reading}
use Rattle.derivative.specs.Rules.{less_one}
use Rattle.derivative.specs.Differentiate.{derivative}

abbrev of : Operation → List ℕ → Formula
of o is = node (operation o) (of_list (map (λ i. node (symbol i) last) is))

abbrev read : List ℕ → List ℕ → Option Formula → Option (Outcome Float)
read inputs answers none = none
read inputs answers (some d) = some (reading binary64 (map Constant.literal inputs) (term d) root (map Constant.literal answers))

-- the derivative by symbol s of an operation on the symbols 0, 1, ..; inputs and answers as bits
abbrev by : ℕ → Bool → Operation → List ℕ → List ℕ → List ℕ → Option (Outcome Float)
by s state o is inputs answers = read inputs answers (derivative s state (of o is))

abbrev gives : ℕ → Option (Outcome Float)
gives bits = some (value (Constant.literal bits) [])

abbrev 1e0 : ℕ
1e0 = 0x3ff0000000000000

abbrev 2e0 : ℕ
2e0 = 0x4000000000000000

abbrev -1e0 : ℕ
-1e0 = 0xbff0000000000000

abbrev -0e0 : ℕ
-0e0 = 0x8000000000000000

abbrev -2e0 : ℕ
-2e0 = 0xc000000000000000

abbrev half : ℕ
half = 0x3fe0000000000000

-- 1e-8 × 2
abbrev 2e-8 : ℕ
2e-8 = 0x3e55798ee2308c3a

pub abs_negative : by 0 false (call Abs) (0 ∷ []) (-2e0 ∷ []) [] ≡ gives -1e0
unfolding add sub mul div rem neg lt le eq ne of_bits to_bits round whole absolute floor hold hill_work density_work density_cost less_one
abs_negative = refl

-- "Abs at 0 gives 0"
pub abs_zero : by 0 false (call Abs) (0 ∷ []) (0 ∷ []) [] ≡ gives 0
unfolding add sub mul div rem neg lt le eq ne of_bits to_bits round whole absolute floor hold hill_work density_work density_cost less_one
abs_zero = refl

pub abs_positive : by 0 false (call Abs) (0 ∷ []) (2e0 ∷ []) [] ≡ gives 1e0
unfolding add sub mul div rem neg lt le eq ne of_bits to_bits round whole absolute floor hold hill_work density_work density_cost less_one
abs_positive = refl

-- "a Power whose exponent is no literal leaves out its base part at exponent 0": 2 to the 0, by its base; the formula asks once
pub power_zero : by 0 false (binary Power) (0 ∷ 1 ∷ []) (2e0 ∷ 0 ∷ []) (1e0 ∷ []) ≡ gives 0
unfolding add sub mul div rem neg lt le eq ne of_bits to_bits round whole absolute floor hold hill_work density_work density_cost less_one
power_zero = refl

-- "and its exponent part at base 0": 0 to the 2, by its exponent
pub zero_power : by 1 false (binary Power) (0 ∷ 1 ∷ []) (0 ∷ 2e0 ∷ []) (0 ∷ []) ≡ gives 0
unfolding add sub mul div rem neg lt le eq ne of_bits to_bits round whole absolute floor hold hill_work density_work density_cost less_one
zero_power = refl

-- "a density that rounds to 0 gives 0": x, mean and shape 1, the last exponential answered by 0, for the formula and for its copy
pub density_zero : by 0 false (call InverseGaussianDensity) (0 ∷ 1 ∷ 2 ∷ []) (1e0 ∷ 1e0 ∷ 1e0 ∷ []) (0 ∷ 0 ∷ 0 ∷ 0 ∷ 0 ∷ 0 ∷ 0 ∷ 0 ∷ []) ≡ gives 0
unfolding add sub mul div rem neg lt le eq ne of_bits to_bits round whole absolute floor hold hill_work density_work density_cost less_one
density_zero = refl

-- "a Min or Max tie takes the first argument"
pub min_tie_first : by 0 false (call Min) (0 ∷ 1 ∷ []) (2e0 ∷ 2e0 ∷ []) [] ≡ gives 1e0
unfolding add sub mul div rem neg lt le eq ne of_bits to_bits round whole absolute floor hold hill_work density_work density_cost less_one
min_tie_first = refl

pub min_tie_second : by 1 false (call Min) (0 ∷ 1 ∷ []) (2e0 ∷ 2e0 ∷ []) [] ≡ gives 0
unfolding add sub mul div rem neg lt le eq ne of_bits to_bits round whole absolute floor hold hill_work density_work density_cost less_one
min_tie_second = refl

pub max_tie_first : by 0 false (call Max) (0 ∷ 1 ∷ []) (2e0 ∷ 2e0 ∷ []) [] ≡ gives 1e0
unfolding add sub mul div rem neg lt le eq ne of_bits to_bits round whole absolute floor hold hill_work density_work density_cost less_one
max_tie_first = refl

pub max_tie_second : by 1 false (call Max) (0 ∷ 1 ∷ []) (2e0 ∷ 2e0 ∷ []) [] ≡ gives 0
unfolding add sub mul div rem neg lt le eq ne of_bits to_bits round whole absolute floor hold hill_work density_work density_cost less_one
max_tie_second = refl

-- zeros are a tie too, though Min(+0, -0) and Max(-0, +0) are the second argument
pub min_tie_zeros : (by 0 false (call Min) (0 ∷ 1 ∷ []) (0 ∷ -0e0 ∷ []) [] ≡ gives 1e0) × (by 1 false (call Min) (0 ∷ 1 ∷ []) (0 ∷ -0e0 ∷ []) [] ≡ gives 0)
unfolding add sub mul div rem neg lt le eq ne of_bits to_bits round whole absolute floor hold hill_work density_work density_cost less_one
min_tie_zeros = (refl, refl)

pub max_tie_zeros : (by 0 false (call Max) (0 ∷ 1 ∷ []) (-0e0 ∷ 0 ∷ []) [] ≡ gives 1e0) × (by 1 false (call Max) (0 ∷ 1 ∷ []) (-0e0 ∷ 0 ∷ []) [] ≡ gives 0)
unfolding add sub mul div rem neg lt le eq ne of_bits to_bits round whole absolute floor hold hill_work density_work density_cost less_one
max_tie_zeros = (refl, refl)

-- "Hill at x = 0 gives 0 where dx is the literal zero"
pub hill_constant : by 1 true (call Hill) (0 ∷ 1 ∷ 2 ∷ []) (0 ∷ 1e0 ∷ 2e0 ∷ []) [] ≡ gives 0
unfolding add sub mul div rem neg lt le eq ne of_bits to_bits round whole absolute floor hold hill_work density_work density_cost less_one
hill_constant = refl

-- "else n > 1 gives 0"
pub hill_above : by 0 false (call Hill) (0 ∷ 1 ∷ 2 ∷ []) (0 ∷ 2e0 ∷ 2e0 ∷ []) [] ≡ gives 0
unfolding add sub mul div rem neg lt le eq ne of_bits to_bits round whole absolute floor hold hill_work density_work density_cost less_one
hill_above = refl

pub hill_above_state : by 0 true (call Hill) (0 ∷ 1 ∷ 2 ∷ []) (0 ∷ 2e0 ∷ 2e0 ∷ []) [] ≡ gives 0
unfolding add sub mul div rem neg lt le eq ne of_bits to_bits round whole absolute floor hold hill_work density_work density_cost less_one
hill_above_state = refl

-- "n = 1 by a state gives dx/k"
pub hill_one : by 0 true (call Hill) (0 ∷ 1 ∷ 2 ∷ []) (0 ∷ 1e0 ∷ 2e0 ∷ []) [] ≡ gives half
unfolding add sub mul div rem neg lt le eq ne of_bits to_bits round whole absolute floor hold hill_work density_work density_cost less_one
hill_one = refl

-- "n < 1 by a state takes dx times the slope at 1e-8·k", with k = 2: it asks the logarithm of 2e-8,
pub hill_below : by 0 true (call Hill) (0 ∷ 1 ∷ 2 ∷ []) (0 ∷ half ∷ 2e0 ∷ []) [] ≡ some (question (elementary 1 (Constant.literal 2e-8)))
unfolding add sub mul div rem neg lt le eq ne of_bits to_bits round whole absolute floor hold hill_work density_work density_cost less_one
hill_below = refl

-- then, with -2 and 0 for the logarithms of 2e-8 and 2, the exponential of z = 0.5 × (-2 - 0),
pub hill_below_power : by 0 true (call Hill) (0 ∷ 1 ∷ 2 ∷ []) (0 ∷ half ∷ 2e0 ∷ []) (-2e0 ∷ 0 ∷ []) ≡ some (question (elementary 0 (Constant.literal -1e0)))
unfolding add sub mul div rem neg lt le eq ne of_bits to_bits round whole absolute floor hold hill_work density_work density_cost less_one
hill_below_power = refl

-- and with 1 for it, and the like for the second Hill of the slope, it is 0.5 / 2e-8 × 0.5 × n
pub hill_below_slope : by 0 true (call Hill) (0 ∷ 1 ∷ 2 ∷ []) (0 ∷ half ∷ 2e0 ∷ []) (-2e0 ∷ 0 ∷ 1e0 ∷ 0 ∷ -2e0 ∷ 1e0 ∷ []) ≡ gives 0x4157d78400000000
unfolding add sub mul div rem neg lt le eq ne of_bits to_bits round whole absolute floor hold hill_work density_work density_cost less_one
hill_below_slope = refl

-- "otherwise Domain": at the division of 1 by 0
pub hill_domain : by 0 false (call Hill) (0 ∷ 1 ∷ 2 ∷ []) (0 ∷ 1e0 ∷ 2e0 ∷ []) [] ≡ some (domain (root ▸ argument 1 ▸ else_arm ▸ else_arm ▸ else_arm))
unfolding add sub mul div rem neg lt le eq ne of_bits to_bits round whole absolute floor hold hill_work density_work density_cost less_one
hill_domain = refl

-- "Modulo at remainder 0 is Domain": at the division by the formula
pub modulo_domain : by 0 false (binary Modulo) (0 ∷ 1 ∷ []) (2e0 ∷ 1e0 ∷ []) [] ≡ some (domain (root ▸ argument 1 ▸ argument 0))
unfolding add sub mul div rem neg lt le eq ne of_bits to_bits round whole absolute floor hold hill_work density_work density_cost less_one
modulo_domain = refl
