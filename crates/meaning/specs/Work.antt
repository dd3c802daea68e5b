-- One node's work: a value, not a number, or a question and what comes of each answer to it. Reading and machine use it alike.
use Rattle.std.specs.Prelude.{Bool, false, not, ◌&&◌, ◌||◌, List, [], ◌∷◌, ℕ, get_or, eqb}
use Rattle.std.proofs.Math.Bool.{cond}
use Rattle.std.specs.Float.Ieee.{Float, add, sub, mul, div, neg, lt, le, eq, ne, to_bits}
use Rattle.std.specs.Float.{Format}
use Rattle.arithmetic.specs.Value.{0f, 1f, 2f, 3f, half, truth_value, whole, absolute}
use Rattle.arithmetic.specs.Round.{floor, ceil}
use Rattle.arithmetic.specs.Root.{sqrt}
use Rattle.arithmetic.specs.Modulo.{modulo}
use Rattle.arithmetic.specs.Extremum.{extremum, below, above}
use Rattle.arithmetic.specs.Constant.{two_pi, ln_two}
use Rattle.formula.specs.Operator.{Unary, Positive, Negative, Not, Binary, Add, Subtract, Multiply, Divide, Power, Modulo, Compare, Lt, Le, Gt, Ge, Eq, Ne, Function, Exp, Log, Log10, Sqrt, Sin, Cos, Tan, Tanh, Abs, Floor, Ceil, Min, Max, Hill, InverseGaussianDensity, function_number, Operation, unary, binary, compare, call}

-- "the run stops with the function and its arguments": a function's number and its argument, or Power's base and exponent
pub data Question : Type 0 where
  elementary : ℕ → Float → Question
  power : Float → Float → Question

-- an interaction tree
pub data Interaction : Type 0 where
  give : Float → Interaction
  undefined : Interaction
  ask : Question → (Float → Interaction) → Interaction

-- the work of a function that the host supplies
abbrev pub supplied : Question → Interaction
supplied q = ask q (λ v. give v)

abbrev pub asked : Function → Float → Question
asked f x = elementary (function_number f) x

module _ (F : Format) where
  abbrev pub unary_work : Unary → Float → Interaction
  unary_work Positive x = give x
  unary_work Negative x = give (neg x)
  unary_work Not x = give (truth_value (eq x 0f))

  -- "Division by a zero of either sign ... [is] Domain."
  abbrev pub divide_work : Float → Float → Interaction
  divide_work a b = cond (ne b 0f) (give (div F a b)) undefined

  -- "Power with base 0 and exponent <= 0, or a negative base and a fractional exponent ... [is] Domain."
  abbrev pub power_defined : Float → Float → Bool
  power_defined a b = (le 0f a || whole b) && not (eq a 0f && le b 0f)

  abbrev pub power_work : Float → Float → Interaction
  power_work a b = cond (power_defined a b) (supplied (power a b)) undefined

  -- "Modulo with b <= 0 [is] Domain."
  abbrev pub modulo_work : Float → Float → Interaction
  modulo_work a b = cond (lt 0f b) (give (modulo F a b)) undefined

  abbrev pub binary_work : Binary → Float → Float → Interaction
  binary_work Add a b = give (add F a b)
  binary_work Subtract a b = give (sub F a b)
  binary_work Multiply a b = give (mul F a b)
  binary_work Divide a b = divide_work a b
  binary_work Power a b = power_work a b
  binary_work Modulo a b = modulo_work a b

  abbrev pub compared : Compare → Float → Float → Bool
  compared Lt a b = lt a b
  compared Le a b = le a b
  compared Gt a b = lt b a
  compared Ge a b = le b a
  compared Eq a b = eq a b
  compared Ne a b = ne a b

  -- "Hill(x, n, k) is Domain if n or k <= 0, and 0 if x <= 0. Else z = n × (log x - log k); for z >= 0 it is 1 / (1 + exp(-z)), otherwise
  -- q / (1 + q) with q = exp z. It puts log x, log k, then that exp."
  unfoldable pub hill_work : Float → Float → Float → Interaction
  hill_work x n k =
      cond (le n 0f || le k 0f) undefined
      (cond (le x 0f) (give 0f)
      (ask (asked Log x) (λ log_x. ask (asked Log k) (λ log_k.
      let z = mul F n (sub F log_x log_k) in
      cond (le 0f z) (ask (asked Exp (neg z)) (λ e. give (div F 1f (add F 1f e))))
      (ask (asked Exp z) (λ q. give (div F q (add F 1f q))))))))

  -- what the density's cost is worked out of, after the normalizer: "unless x equals mean log shape, log x, log |x - mean|, log mean, exp"
  unfoldable pub density_cost : Float → Float → Float → (Float → Interaction) → Interaction
  density_cost x mean shape after =
      ask (asked Log shape) (λ a. ask (asked Log x) (λ b. ask (asked Log (absolute (sub F x mean))) (λ c. ask (asked Log mean) (λ d.
      ask (asked Exp (add F (sub F (sub F a ln_two) b) (mul F 2f (sub F c d)))) after))))

  -- "The density's arguments are x, mean and shape: Domain if mean or shape <= 0, 0 if x <= 0, else the formula in `evaluate_prechecked`. It puts
  -- log shape, log 2π, log x, then [the cost's questions], and last exp."
  unfoldable pub density_work : Float → Float → Float → Interaction
  unfolding density_cost
  density_work x mean shape =
      cond (le mean 0f || le shape 0f) undefined
      (cond (le x 0f) (give 0f)
      (ask (asked Log shape) (λ a. ask (asked Log two_pi) (λ b. ask (asked Log x) (λ c.
      let normalizer = mul F half (sub F (sub F a b) (mul F 3f c)) in
      let density : Float → Interaction = λ cost. supplied (asked Exp (sub F normalizer cost)) in
      cond (eq x mean) (density 0f) (density_cost x mean shape density))))))

  abbrev pub call_work : Function → List Float → Float → Float → Float → Interaction
  call_work Exp xs x y z = supplied (asked Exp x)
  call_work Log xs x y z = supplied (asked Log x)
  call_work Log10 xs x y z = supplied (asked Log10 x)
  call_work Sqrt xs x y z = give (sqrt F x)
  call_work Sin xs x y z = supplied (asked Sin x)
  call_work Cos xs x y z = supplied (asked Cos x)
  call_work Tan xs x y z = supplied (asked Tan x)
  call_work Tanh xs x y z = supplied (asked Tanh x)
  call_work Abs xs x y z = give (absolute x)
  call_work Floor xs x y z = give (floor F x)
  call_work Ceil xs x y z = give (ceil F x)
  call_work Min xs x y z = give (extremum below xs)
  call_work Max xs x y z = give (extremum above xs)
  call_work Hill xs x y z = hill_work x y z
  call_work InverseGaussianDensity xs x y z = density_work x y z

  -- the work of an operation on its arguments
  abbrev pub work : Operation → List Float → Interaction
  work (unary o) xs = unary_work o (get_or xs 0 0f)
  work (binary o) xs = binary_work o (get_or xs 0 0f) (get_or xs 1 0f)
  work (compare o) xs = give (truth_value (compared o (get_or xs 0 0f) (get_or xs 1 0f)))
  work (call f) xs = call_work f xs (get_or xs 0 0f) (get_or xs 1 0f) (get_or xs 2 0f)

  -- two questions are one where the functions and the arguments' bits are; "A NaN argument is shown as 7ff8000000000000"
  abbrev pub same_bits : Float → Float → Bool
  same_bits x y = eqb (to_bits F x) (to_bits F y)

  abbrev pub same_question : Question → Question → Bool
  same_question (elementary f x) (elementary g y) = eqb f g && same_bits x y
  same_question (elementary f x) (power c d) = false
  same_question (power a b) (elementary g y) = false
  same_question (power a b) (power c d) = same_bits a c && same_bits b d

-- the work that is left after some answers
abbrev pub advance : Interaction → List Float → Interaction
advance w [] = w
advance (give v) (x ∷ xs) = give v
advance undefined (x ∷ xs) = undefined
advance (ask q k) (x ∷ xs) = advance (k x) xs
