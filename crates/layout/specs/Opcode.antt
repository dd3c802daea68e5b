-- The numbers of operations, steps and kinds in a program's bytes.
use Rattle.std.specs.Prelude.{Bool, true, false, cond, ℕ, ◌+◌, ◌-◌, eqb}
use Rattle.formula.specs.Operator.{Boolean, Function, InverseGaussianDensity, Max, Min, Number, Operation, ValueKind, binary, call, compare, unary, Abs, Ceil, Cos, Exp, Floor, Hill, Log, Log10, Sin, Sqrt, Tan, Tanh}
use Rattle.formula.specs.Node.{binary_number, compare_number, unary_number}
use Rattle.formula.specs.Path.{Path, Step, ◌▸◌, argument, condition, else_arm, root, then_arm}

-- 0 constant, 1 load, 2 copy, 3 jump if false, 4 jump, 5 to 7 unary, 8 to 13 binary, 14 to 19 compare, 20 on calls
abbrev pub call_number : Function → ℕ
call_number Exp = 0
call_number Log = 1
call_number Log10 = 2
call_number Sqrt = 3
call_number Sin = 4
call_number Cos = 5
call_number Tan = 6
call_number Tanh = 7
call_number Abs = 8
call_number Floor = 9
call_number Ceil = 10
call_number Min = 11
call_number Max = 12
call_number Hill = 13
call_number InverseGaussianDensity = 14

abbrev pub operation_number : Operation → ℕ
operation_number (unary o) = 5 + unary_number o
operation_number (binary o) = 8 + binary_number o
operation_number (compare o) = 14 + compare_number o
operation_number (call f) = 20 + call_number f

-- Min and Max read a list of registers
abbrev pub listing_call : Function → Bool
listing_call Exp = false
listing_call Log = false
listing_call Log10 = false
listing_call Sqrt = false
listing_call Sin = false
listing_call Cos = false
listing_call Tan = false
listing_call Tanh = false
listing_call Abs = false
listing_call Floor = false
listing_call Ceil = false
listing_call Min = true
listing_call Max = true
listing_call Hill = false
listing_call InverseGaussianDensity = false

abbrev pub listing : Operation → Bool
listing (unary o) = false
listing (binary o) = false
listing (compare o) = false
listing (call f) = listing_call f

abbrev pub kind_number : ValueKind → ℕ
kind_number Number = 0
kind_number Boolean = 1

-- 0 condition, 1 then, 2 else, 3 + i argument i
abbrev pub step_number : Step → ℕ
step_number condition = 0
step_number then_arm = 1
step_number else_arm = 2
step_number (argument i) = 3 + i

abbrev pub step_of : ℕ → Step
step_of n = cond (eqb n 0) condition (cond (eqb n 1) then_arm (cond (eqb n 2) else_arm (argument (n - 3))))

-- a path's last step
abbrev pub last_step : Path → ℕ
last_step root = 0
last_step (p ▸ s) = step_number s
