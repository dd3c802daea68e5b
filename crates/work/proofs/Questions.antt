-- No operation puts more than nine questions, so nine places hold all that is kept while one of them waits for its answer.
use mathlib.Core.Path.{◌≡◌, sym}
use mathlib.Core.Bool.{Bool, true, false, cond, ◌||◌, true≢false}
use mathlib.Core.List.{List, [], ◌∷◌}
use Prim.Native.Nat.{ℕ, zero, suc, ◌<◌}
use native.Mathlib.Omega.{arith}
use lib.ListN.{length, get_or}
use lib.Ieee.{Float, Format, sub, mul, lt, le, eq, ne}
use Rattle.arithmetic.specs.Value.{0f}
use Rattle.formula.specs.Operator.{Operation, unary, binary, compare, call, Unary, Positive, Negative, Not, Binary, Add, Subtract, Multiply, Divide, Power, Modulo, Function, Exp, Log, Log10, Sqrt, Sin, Cos, Tan, Tanh, Abs, Floor, Ceil, Min, Max, Hill, InverseGaussianDensity}
use Rattle.meaning.specs.Work.{Interaction, give, undefined, ask, power, advance, work, unary_work, binary_work, call_work, power_defined, hill_work, density_work, density_cost}
use Rattle.work.specs.View.{shown}
use Rattle.work.specs.declared.Outcome.{Outcome}
use Rattle.work.specs.declared.Outcome.TheVariants.{Value, Undefined, Question}

-- at most n questions, whatever the answers
abbrev pub AtMost : ℕ → Interaction → Type 0
AtMost n (give v) = Unit {0}
AtMost n undefined = Unit {0}
AtMost zero (ask q k) = ⊥
AtMost (suc n) (ask q k) = (x : Float) → AtMost n (k x)

either : (n : ℕ) (b : Bool) (v w : Interaction) → AtMost n v → AtMost n w → AtMost n (cond b v w)
either n true v w p q = p
either n false v w p q = q

module _ (F : Format) where
  of_unary : (o : Unary) (x : Float) → AtMost 9 (unary_work F o x)
  of_unary Positive x = tt
  of_unary Negative x = tt
  of_unary Not x = tt

  of_binary : (o : Binary) (a b : Float) → AtMost 9 (binary_work F o a b)
  of_binary Add a b = tt
  of_binary Subtract a b = tt
  of_binary Multiply a b = tt
  of_binary Divide a b = either 9 (ne b 0f) (give _) undefined tt tt
  of_binary Power a b = either 9 (power_defined F a b) (ask (power a b) (λ v. give v)) undefined (λ v. tt) tt
  of_binary Modulo a b = either 9 (lt 0f b) (give _) undefined tt tt

  of_hill : (x n k : Float) → AtMost 9 (hill_work F x n k)
  unfolding hill_work
  of_hill x n k =
      either 9 (le n 0f || le k 0f) undefined _ tt
      (either 9 (le x 0f) (give 0f) _ tt (λ a b. either 7 (le 0f (mul F n (sub F a b))) _ _ (λ e. tt) (λ q. tt)))

  of_density : (x mean shape : Float) → AtMost 9 (density_work F x mean shape)
  unfolding density_work density_cost
  of_density x mean shape =
      either 9 (le mean 0f || le shape 0f) undefined _ tt
      (either 9 (le x 0f) (give 0f) _ tt (λ a b c. either 6 (eq x mean) _ _ (λ v. tt) (λ d e f g h v. tt)))

  of_call : (f : Function) (xs : List Float) (x y z : Float) → AtMost 9 (call_work F f xs x y z)
  of_call Exp xs x y z = λ v. tt
  of_call Log xs x y z = λ v. tt
  of_call Log10 xs x y z = λ v. tt
  of_call Sqrt xs x y z = tt
  of_call Sin xs x y z = λ v. tt
  of_call Cos xs x y z = λ v. tt
  of_call Tan xs x y z = λ v. tt
  of_call Tanh xs x y z = λ v. tt
  of_call Abs xs x y z = tt
  of_call Floor xs x y z = tt
  of_call Ceil xs x y z = tt
  of_call Min xs x y z = tt
  of_call Max xs x y z = tt
  of_call Hill xs x y z = of_hill x y z
  of_call InverseGaussianDensity xs x y z = of_density x y z

  pub at_most_nine : (o : Operation) (xs : List Float) → AtMost 9 (work F o xs)
  at_most_nine (unary o) xs = of_unary o (get_or xs 0 0f)
  at_most_nine (binary o) xs = of_binary o (get_or xs 0 0f) (get_or xs 1 0f)
  at_most_nine (compare o) xs = tt
  at_most_nine (call f) xs = of_call f xs (get_or xs 0 0f) (get_or xs 1 0f) (get_or xs 2 0f)

abbrev pub is_question : Outcome → Bool
is_question (Value v) = false
is_question Undefined = false
is_question (Question q) = true

pub room : (n : ℕ) (w : Interaction) (kept : List Float) → AtMost n w → is_question (shown (advance w kept)) ≡ true → length kept < n
room n (give v) [] m e = absurd (true≢false (sym e))
room n (give v) (x ∷ xs) m e = absurd (true≢false (sym e))
room n undefined [] m e = absurd (true≢false (sym e))
room n undefined (x ∷ xs) m e = absurd (true≢false (sym e))
room zero (ask q k) kept m e = absurd m
room (suc n) (ask q k) [] m e = omega arith
room (suc n) (ask q k) (x ∷ xs) m e = let h = room n (k x) xs (m x) e in omega arith
