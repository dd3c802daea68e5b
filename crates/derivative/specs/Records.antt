-- "Beside the derivative tree, write one record for each node: rule number and the node of the formula it came from." The derivative with a record at each
-- node: the same rules, over trees with records. Nodes of the formula are numbered from 0 in byte order.
use Rattle.std.specs.Prelude.{Bool, cond, List, [], ◌∷◌, ◌++◌, ℕ, suc, ◌+◌}
use Rattle.std.proofs.Math.Option.{Option, none, some}
use Rattle.formula.specs.Text.{little_endian}
use Rattle.formula.specs.Operator.{Operation, unary, binary, compare, call, Positive, Negative, Not, Binary, Add, Subtract, Multiply, Divide, Power, Modulo, Function, Exp, Log, Log10, Sqrt, Sin, Cos, Tan, Tanh, Abs, Floor, Ceil, Min, Max, Hill, InverseGaussianDensity}
use Rattle.formula.specs.Formula.{Head, number, truth, symbol, operation, junction, ifelse, conditional, malformed, Formula, Formulas, node, last, next, size, depends}
use Rattle.derivative.specs.Rules.{Algebra}
use Rattle.derivative.specs.Differentiate.{formulas, and_then, applied, the_rule}

pub record Record : Type 0 where
  pub rule : ℕ
  -- the node of the formula
  pub source : ℕ

-- ---- "Rules are numbered in docs in the order of the arms of `differentiate`"

abbrev pub binary_arm : Binary → ℕ
binary_arm Add = 4
binary_arm Subtract = 5
binary_arm Multiply = 6
binary_arm Divide = 7
binary_arm Power = 8
binary_arm Modulo = 9

-- an arm that only refuses has no number
abbrev pub call_arm : Function → ℕ
call_arm Min = 12
call_arm Max = 12
call_arm Abs = 13
call_arm InverseGaussianDensity = 14
call_arm Hill = 15
call_arm Exp = 16
call_arm Log = 17
call_arm Log10 = 18
call_arm Sqrt = 19
call_arm Sin = 20
call_arm Cos = 21
call_arm Tan = 22
call_arm Tanh = 23
call_arm Floor = 0
call_arm Ceil = 0

abbrev pub operation_arm : Operation → ℕ
operation_arm (unary Positive) = 2
operation_arm (unary Negative) = 3
operation_arm (unary Not) = 0
operation_arm (binary o) = binary_arm o
operation_arm (compare o) = 0
operation_arm (call f) = call_arm f

-- the number of a node's arm
abbrev pub arm : Head → ℕ
arm (symbol i) = 1
arm (operation o) = operation_arm o
arm conditional = 10
arm ifelse = 11
arm (number b) = 0
arm (truth b) = 0
arm (junction j) = 0
arm malformed = 0

-- "with 0 for a node copied from the formula,"
abbrev pub copied : ℕ
copied = 0

-- "a number for each helper simplification that writes a new node": the 0 of `mul` and the 1 of `power`;
abbrev pub beside_zero : ℕ
beside_zero = 24

abbrev pub to_the_zeroth : ℕ
to_the_zeroth = 25

-- "and two last ones for a part without the symbol and for the outer 0 × formula + derivative."
abbrev pub without_symbol : ℕ
without_symbol = 26

abbrev pub outer : ℕ
outer = 27

-- ---- trees with a record at each node

mutual
  pub data Recorded : Type 0 where
    noted : Record → Head → Recordeds → Recorded

  pub data Recordeds : Type 0 where
    stop : Recordeds
    more : Recorded → Recordeds → Recordeds

abbrev pub gathered : List Recorded → Recordeds
gathered [] = stop
gathered (t ∷ ts) = more t (gathered ts)

-- the tree itself
abbrev mutual
  pub erase : Recorded → Formula
  erase (noted r h ts) = node h (erase_all ts)

  pub erase_all : Recordeds → Formulas
  erase_all stop = last
  erase_all (more t ts) = next (erase t) (erase_all ts)

-- its records, in byte order
abbrev mutual
  pub records : Recorded → List Record
  records (noted r h ts) = r ∷ records_all ts

  pub records_all : Recordeds → List Record
  records_all stop = []
  records_all (more t ts) = records t ++ records_all ts

abbrev pub by_rule : ℕ → ℕ → Record
by_rule r k = record { rule = r; source = k }

abbrev pub recorded_literal : ℕ → ℕ → ℕ → Recorded
recorded_literal r k b = noted (by_rule r k) (number b) stop

-- a copy of the formula's node k: each node of it has its own number
abbrev mutual
  pub copy : ℕ → Formula → Recorded
  copy k (node h ts) = noted (by_rule copied k) h (gathered (copies (suc k) ts))

  pub copies : ℕ → Formulas → List Recorded
  copies k last = []
  copies k (next t ts) = copy k t ∷ copies (k + size t) ts

-- what arm r writes at node k
abbrev pub written_by : ℕ → ℕ → Algebra Recorded
written_by r k =
    record {
      node = λ h ts. noted (by_rule r k) h (gathered ts);
      zero_product = recorded_literal beside_zero k 0;
      zeroth_power = recorded_literal to_the_zeroth k 0x3ff0000000000000;
      is_zero = λ t. formulas.is_zero (erase t);
      is_one = λ t. formulas.is_one (erase t);
    }

-- The derivative by the symbol s of the formula's node k, by the rules that the derivative is made by.
abbrev mutual
  pub differentiate_at : ℕ → Bool → ℕ → Formula → Option Recorded
  differentiate_at s by_state k (node h ts) =
      cond (depends s (node h ts))
      (and_then (differentiate_from s by_state (suc k) ts)
      (λ ds. applied (written_by (arm h) k) (the_rule s by_state h ts) (copy k (node h ts)) (copies (suc k) ts) ds))
      (some (recorded_literal without_symbol k 0))

  -- of nodes one after another, the first of number k
  pub differentiate_from : ℕ → Bool → ℕ → Formulas → Option (List Recorded)
  differentiate_from s by_state k last = some []
  differentiate_from s by_state k (next t ts) =
      and_then (differentiate_at s by_state k t) (λ d. and_then (differentiate_from s by_state (k + size t) ts) (λ ds. some (d ∷ ds)))

-- 0 × formula + derivative
abbrev pub recorded_with_primal : Formula → Recorded → Recorded
recorded_with_primal f d =
    let G = written_by outer 0 in
    G.node (operation (binary Add)) (G.node (operation (binary Multiply)) (G.node (number 0) [] ∷ copy 0 f ∷ []) ∷ d ∷ [])

abbrev pub recorded_derivative : ℕ → Bool → Formula → Option Recorded
recorded_derivative s by_state f = and_then (differentiate_at s by_state 0 f) (λ d. some (recorded_with_primal f d))

-- ---- the list of records

abbrev pub records_of : Option Recorded → List Record
records_of none = []
records_of (some t) = records t

-- of the derivative by the symbol s
unfoldable pub derivative_records : ℕ → Bool → Formula → List Record
derivative_records s by_state f = records_of (recorded_derivative s by_state f)

-- "rule number and the node of the formula it came from, 4 bytes each, little-endian"
abbrev pub record_size : ℕ
record_size = 8

unfoldable pub record_bytes : Record → List ℕ
record_bytes r = little_endian 4 r.rule ++ little_endian 4 r.source

unfoldable pub list_bytes : List Record → List ℕ
unfolding record_bytes
list_bytes [] = []
list_bytes (r ∷ rs) = record_bytes r ++ list_bytes rs
