-- The operators of a formula, by document 01's names and numbers.
use Rattle.std.specs.Prelude.{Bool, true, false, ℕ, eqb, leb}

-- "3 unary, 1 child: Positive 0, Negative 1, Not 2."
pub data Unary : Type 0 where
  Positive Negative Not : Unary

-- "4 binary, 2: Add 0, Subtract, Multiply, Divide, Power, Modulo 5."
pub data Binary : Type 0 where
  Add Subtract Multiply Divide Power Modulo : Binary

-- "5 compare, 2: Lt 0, Le, Gt, Ge, Eq, Ne 5."
pub data Compare : Type 0 where
  Lt Le Gt Ge Eq Ne : Compare

-- "6 boolean, any count: And 0, Or 1."
pub data Junction : Type 0 where
  And Or : Junction

-- "7 call, any count: Exp 0, Log, Log10, Sqrt, Sin, Cos, Tan, Tanh, Abs, Floor, Ceil, Min, Max, Hill, Ifelse, InverseGaussianDensity 15."
-- Ifelse is no function of numbers: it stands beside the conditional.
pub data Function : Type 0 where
  Exp Log Log10 Sqrt Sin Cos Tan Tanh Abs Floor Ceil Min Max Hill InverseGaussianDensity : Function

-- what works numbers out of numbers
pub data Operation : Type 0 where
  unary : Unary → Operation
  binary : Binary → Operation
  compare : Compare → Operation
  call : Function → Operation

abbrev pub function_number : Function → ℕ
function_number Exp = 0
function_number Log = 1
function_number Log10 = 2
function_number Sqrt = 3
function_number Sin = 4
function_number Cos = 5
function_number Tan = 6
function_number Tanh = 7
function_number Abs = 8
function_number Floor = 9
function_number Ceil = 10
function_number Min = 11
function_number Max = 12
function_number Hill = 13
function_number InverseGaussianDensity = 15

pub data ValueKind : Type 0 where
  Number Boolean : ValueKind

abbrev pub same_kind : ValueKind → ValueKind → Bool
same_kind Number Number = true
same_kind Number Boolean = false
same_kind Boolean Number = false
same_kind Boolean Boolean = true

-- the kind of value that an operation gives, and the kind that it takes
abbrev pub result_kind : Operation → ValueKind
result_kind (unary Positive) = Number
result_kind (unary Negative) = Number
result_kind (unary Not) = Boolean
result_kind (binary o) = Number
result_kind (compare o) = Boolean
result_kind (call f) = Number

abbrev pub argument_kind : Operation → ValueKind
argument_kind (unary Positive) = Number
argument_kind (unary Negative) = Number
argument_kind (unary Not) = Boolean
argument_kind (binary o) = Number
argument_kind (compare o) = Number
argument_kind (call f) = Number

-- how many arguments a call takes, as `lower` has it
abbrev pub call_arity : Function → ℕ → Bool
call_arity Exp n = eqb n 1
call_arity Log n = eqb n 1
call_arity Log10 n = eqb n 1
call_arity Sqrt n = eqb n 1
call_arity Sin n = eqb n 1
call_arity Cos n = eqb n 1
call_arity Tan n = eqb n 1
call_arity Tanh n = eqb n 1
call_arity Abs n = eqb n 1
call_arity Floor n = eqb n 1
call_arity Ceil n = eqb n 1
call_arity Min n = leb 2 n
call_arity Max n = leb 2 n
call_arity Hill n = eqb n 3
call_arity InverseGaussianDensity n = eqb n 3

abbrev pub arity : Operation → ℕ → Bool
arity (unary u) n = eqb n 1
arity (binary o) n = eqb n 2
arity (compare o) n = eqb n 2
arity (call f) n = call_arity f n

-- the operations whose value jumps: of arguments that vary they are refused as 8 where the formula is the operator's own
abbrev pub stepped_call : Function → Bool
stepped_call Exp = false
stepped_call Log = false
stepped_call Log10 = false
stepped_call Sqrt = false
stepped_call Sin = false
stepped_call Cos = false
stepped_call Tan = false
stepped_call Tanh = false
stepped_call Abs = false
stepped_call Floor = true
stepped_call Ceil = true
stepped_call Min = false
stepped_call Max = false
stepped_call Hill = false
stepped_call InverseGaussianDensity = false

abbrev pub stepped : Operation → Bool
stepped (unary u) = false
stepped (binary Add) = false
stepped (binary Subtract) = false
stepped (binary Multiply) = false
stepped (binary Divide) = false
stepped (binary Power) = false
stepped (binary Modulo) = true
stepped (compare o) = false
stepped (call f) = stepped_call f
