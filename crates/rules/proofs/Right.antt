-- Each code string is the rule of the definition.
use mathlib.Core.Path.{◌≡◌, refl}
use mathlib.Core.Bool.{Bool, true, false, cond}
use mathlib.Core.Option.{Option, none, some}
use Prim.Native.Nat.{ℕ, zero, suc}
use Rattle.formula.specs.Operator.{unary, binary, compare, call, Positive, Negative, Not, Add, Subtract, Multiply, Divide, Power, Modulo, Lt, Le, Gt, Ge, Eq, Ne, And, Or, Exp, Log, Log10, Sqrt, Sin, Cos, Tan, Tanh, Abs, Floor, Ceil, Min, Max, Hill, InverseGaussianDensity}
use Rattle.formula.specs.Formula.{Head, number, truth, symbol, operation, junction, ifelse, conditional, malformed}
use Rattle.formula.specs.Node.{fields_of, head_of}
use Rattle.derivative.specs.Rules.{Rule, rule_of, less_one, one_bits, zero_bits, mul, lit, power, child, diff}
use Rattle.rules.specs.Notation.{letters, letter_at, code_of, code_at, end_at, rule_at, rule_numbered, rule_number, or_zero}

-- the rule that a node's kind and operator choose
abbrev pub chosen : Bool → Bool → ℕ → Option ℕ → Head → Option Rule
chosen by_state moving count e h =
    rule_numbered (or_zero e) count (rule_number by_state moving count e (fields_of h count).kind (fields_of h count).operator)

power_right : (c d : Bool) (n m count : ℕ) → less_one n ≡ m → one_bits m ≡ c → zero_bits m ≡ d
    → rule_numbered n count (cond c 0x47 (cond d 0x48 0x46)) ≡ some (mul (mul (lit n) (power (child 0) m)) (diff 0))
unfolding letters letter_at code_of code_at end_at rule_at rule_numbered head_of
power_right true d n m count e p q = rw p
power_right false true n m count e p q = rw (p, q)
power_right false false n m count e p q = rw (p, q, e)

pub chosen_right : (by_state moving : Bool) (count : ℕ) (e : Option ℕ) (h : Head) → chosen by_state moving count e h ≡ rule_of by_state moving count e h
unfolding letters letter_at code_of code_at end_at rule_at rule_numbered rule_number head_of
chosen_right s m n e (number b) = refl
chosen_right s m n e (truth b) = refl
chosen_right s m n e (symbol i) = refl
chosen_right s m n e (operation (unary Positive)) = refl
chosen_right s m n e (operation (unary Negative)) = refl
chosen_right s m n e (operation (unary Not)) = refl
chosen_right s m n e (operation (binary Add)) = refl
chosen_right s m n e (operation (binary Subtract)) = refl
chosen_right s m n e (operation (binary Multiply)) = refl
chosen_right s m n e (operation (binary Divide)) = refl
chosen_right s m n none (operation (binary Power)) = refl
chosen_right s m n (some x) (operation (binary Power)) = power_right (one_bits (less_one x)) (zero_bits (less_one x)) x (less_one x) n refl refl refl
chosen_right s m n e (operation (binary Modulo)) = refl
chosen_right s m n e (operation (compare Lt)) = refl
chosen_right s m n e (operation (compare Le)) = refl
chosen_right s m n e (operation (compare Gt)) = refl
chosen_right s m n e (operation (compare Ge)) = refl
chosen_right s m n e (operation (compare Eq)) = refl
chosen_right s m n e (operation (compare Ne)) = refl
chosen_right s m n e (operation (call Exp)) = refl
chosen_right s m n e (operation (call Log)) = refl
chosen_right s m n e (operation (call Log10)) = refl
chosen_right s m n e (operation (call Sqrt)) = refl
chosen_right s m n e (operation (call Sin)) = refl
chosen_right s m n e (operation (call Cos)) = refl
chosen_right s m n e (operation (call Tan)) = refl
chosen_right s m n e (operation (call Tanh)) = refl
chosen_right s m n e (operation (call Abs)) = refl
chosen_right s m n e (operation (call Floor)) = refl
chosen_right s m n e (operation (call Ceil)) = refl
chosen_right s m zero e (operation (call Min)) = refl
chosen_right s m (suc n) e (operation (call Min)) = refl
chosen_right s m zero e (operation (call Max)) = refl
chosen_right s m (suc n) e (operation (call Max)) = refl
chosen_right true m n e (operation (call Hill)) = refl
chosen_right false m n e (operation (call Hill)) = refl
chosen_right s m n e (operation (call InverseGaussianDensity)) = refl
chosen_right s m n e (junction And) = refl
chosen_right s m n e (junction Or) = refl
chosen_right s true n e ifelse = refl
chosen_right s false n e ifelse = refl
chosen_right s true n e conditional = refl
chosen_right s false n e conditional = refl
chosen_right s m n e malformed = refl
