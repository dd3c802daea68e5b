-- The operation of an opcode, as docs/PROGRAM.md numbers them: 5 to 7 unary, 8 to 13 binary, 14 to 19 compare, 20 on calls.
use Rattle.std.specs.Prelude.{Bool, not, ◌&&◌, List, [], ◌∷◌, ℕ, get_or, eqb, leb, ltb, Float}
use Rattle.std.specs.Float.{binary64}
use Rattle.formula.specs.Operator.{Operation, unary, binary, compare, call, Positive, Negative, Not, Add, Subtract, Multiply, Divide, Power, Modulo, Lt, Le, Gt, Ge, Eq, Ne, Exp, Log, Log10, Sqrt, Sin, Cos, Tan, Tanh, Abs, Floor, Ceil, Min, Max, Hill, InverseGaussianDensity}
use Rattle.meaning.specs.Work.{Interaction, work}

abbrev pub operations : List Operation
operations =
    unary Positive ∷ unary Negative ∷ unary Not
    ∷ binary Add ∷ binary Subtract ∷ binary Multiply ∷ binary Divide ∷ binary Power ∷ binary Modulo
    ∷ compare Lt ∷ compare Le ∷ compare Gt ∷ compare Ge ∷ compare Eq ∷ compare Ne
    ∷ call Exp ∷ call Log ∷ call Log10 ∷ call Sqrt ∷ call Sin ∷ call Cos ∷ call Tan ∷ call Tanh ∷ call Abs ∷ call Floor ∷ call Ceil
    ∷ call Min ∷ call Max ∷ call Hill ∷ call InverseGaussianDensity ∷ []

-- opcodes 0 to 4 do no node's work and none is above 34: Positive, which gives its argument, stands in for them
abbrev pub operation : ℕ → Operation
operation n =
    get_or (unary Positive ∷ unary Positive ∷ unary Positive ∷ unary Positive ∷ unary Positive ∷ operations) n (unary Positive)

-- the work of an opcode on its first three arguments; all but Min and Max have no more
abbrev pub work_of : ℕ → Float → Float → Float → Interaction
work_of n x y z = work binary64 (operation n) (x ∷ y ∷ z ∷ [])

-- the functions of one argument that the host answers: those from Exp, 20, to Tanh, 27, but Sqrt, 23
abbrev pub puts_function : ℕ → Bool
puts_function n = leb 20 n && (ltb n 28 && not (eqb n 23))
