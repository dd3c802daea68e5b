-- Formula bytes: "Nodes of 16 bytes, each followed by its children, nothing after the root's last. Byte 0 is the kind, byte 1 the operator,
-- bytes 2-3 the child count, 4-7 the symbol number from 0, 8-15 the value; all little-endian; unused fields zero."
use Rattle.std.specs.Prelude.{Bool, true, cond, ◌&&◌, List, [], ◌∷◌, ◌++◌, map, ℕ, zero, suc, ◌+◌, ◌*◌, length, get_or, eqb, leb, ltb}
use Rattle.std.proofs.Math.Option.{Option, none, some}
use Rattle.std.proofs.Math.ListN.{get_elem?}
use Rattle.formula.specs.Text.{byte_at, half_at, word_at, long_at, little_endian}
use Rattle.formula.specs.Operator.{Operation, unary, binary, compare, call, Positive, Negative, Not, Add, Subtract, Multiply, Divide, Power, Modulo, Lt, Le, Gt, Ge, Eq, Ne, And, Or, Unary, Binary, Compare, Junction, Exp, Log, Log10, Sqrt, Sin, Cos, Tan, Tanh, Abs, Floor, Ceil, Min, Max, Hill, InverseGaussianDensity, function_number}
use Rattle.formula.specs.Formula.{Head, number, truth, symbol, operation, junction, ifelse, conditional, malformed, Formula, Formulas, node, last, next, count, size, well_formed}

-- how many bytes a node has
abbrev pub node_size : ℕ
node_size = 16

pub record Fields : Type 0 where
  pub kind : ℕ
  pub operator : ℕ
  pub children : ℕ
  pub symbol_number : ℕ
  pub value : ℕ

unfoldable pub fields_at : List ℕ → ℕ → Fields
fields_at b at =
    record { kind = byte_at b at; operator = byte_at b (at + 1); children = half_at b (at + 2); symbol_number = word_at b (at + 4); value = long_at b (at + 8) }

-- ---- the nine kinds

abbrev pub when : Bool → Option Head → Option Head
when b h = cond b h none

-- "0 number (value is f64 bits), 1 truth value (whole number 0 or 1), 2 symbol: no children."
abbrev pub number_head : Fields → Option Head
number_head f = when (eqb f.operator 0 && eqb f.children 0 && eqb f.symbol_number 0) (some (number f.value))

abbrev pub truth_head : Fields → Option Head
truth_head f = when (eqb f.operator 0 && eqb f.children 0 && eqb f.symbol_number 0 && ltb f.value 2) (some (truth (eqb f.value 1)))

abbrev pub symbol_head : Fields → Option Head
symbol_head f = when (eqb f.operator 0 && eqb f.children 0 && eqb f.value 0) (some (symbol f.symbol_number))

-- the kinds whose operator is a place in a table
abbrev pub inner_head : List Head → Bool → Fields → Option Head
inner_head table right_count f = when (right_count && eqb f.symbol_number 0 && eqb f.value 0) (get_elem? table f.operator)

abbrev pub unaries : List Head
unaries = map (λ o. operation (unary o)) (Positive ∷ Negative ∷ Not ∷ [])

abbrev pub binaries : List Head
binaries = map (λ o. operation (binary o)) (Add ∷ Subtract ∷ Multiply ∷ Divide ∷ Power ∷ Modulo ∷ [])

abbrev pub compares : List Head
compares = map (λ o. operation (compare o)) (Lt ∷ Le ∷ Gt ∷ Ge ∷ Eq ∷ Ne ∷ [])

abbrev pub booleans : List Head
booleans = map junction (And ∷ Or ∷ [])

abbrev pub calls : List Head
calls =
    map (λ o. operation (call o)) (Exp ∷ Log ∷ Log10 ∷ Sqrt ∷ Sin ∷ Cos ∷ Tan ∷ Tanh ∷ Abs ∷ Floor ∷ Ceil ∷ Min ∷ Max ∷ Hill ∷ [])
    ++ ifelse ∷ operation (call InverseGaussianDensity) ∷ []

abbrev pub heads : Fields → List (Option Head)
heads f =
    number_head f
    ∷ truth_head f
    ∷ symbol_head f
    ∷ inner_head unaries (eqb f.children 1) f
    ∷ inner_head binaries (eqb f.children 2) f
    ∷ inner_head compares (eqb f.children 2) f
    ∷ inner_head booleans true f
    ∷ inner_head calls true f
    ∷ inner_head (conditional ∷ []) (eqb f.children 3) f
    ∷ []

unfoldable pub head_of : Fields → Option Head
head_of f = get_or (heads f) f.kind none

-- ---- reading

-- k trees one after another, the first at a byte
abbrev pub children_at : (ℕ → Formula) → ℕ → ℕ → Formulas
children_at tree zero at = last
children_at tree (suc k) at = let t = tree at in next t (children_at tree k (at + node_size * size t))

abbrev pub rooted : (ℕ → Formula) → ℕ → ℕ → Option Head → Formula
rooted tree k at none = node malformed last
rooted tree k at (some h) = node h (children_at tree k at)

-- the head at a byte, where all of its bytes are there
unfoldable pub head_at : List ℕ → ℕ → Option Head
unfolding head_of fields_at
head_at b at = cond (leb (at + node_size) (length b)) (head_of (fields_at b at)) none

-- the tree at a byte, of at most d levels
unfoldable pub tree_in : ℕ → List ℕ → ℕ → Formula
unfolding head_at fields_at
tree_in zero b at = node malformed last
tree_in (suc d) b at = rooted (λ a. tree_in d b a) (fields_at b at).children (at + node_size) (head_at b at)

-- the tree at a byte: each level has a node, so there are levels enough
abbrev pub tree_at : List ℕ → ℕ → Formula
tree_at b at = tree_in (length b) b at

-- "formula bytes not as above (size and depth apart)" are none: Transfer says what is wrong with them
unfoldable pub formula_of : List ℕ → Option Formula
unfolding tree_in
formula_of b = let t = tree_at b 0 in cond (well_formed t && eqb (node_size * size t) (length b)) (some t) none

-- ---- writing

abbrev pub unary_number : Unary → ℕ
unary_number Positive = 0
unary_number Negative = 1
unary_number Not = 2

abbrev pub binary_number : Binary → ℕ
binary_number Add = 0
binary_number Subtract = 1
binary_number Multiply = 2
binary_number Divide = 3
binary_number Power = 4
binary_number Modulo = 5

abbrev pub compare_number : Compare → ℕ
compare_number Lt = 0
compare_number Le = 1
compare_number Gt = 2
compare_number Ge = 3
compare_number Eq = 4
compare_number Ne = 5

abbrev pub junction_number : Junction → ℕ
junction_number And = 0
junction_number Or = 1

abbrev pub inner_fields : ℕ → ℕ → ℕ → Fields
inner_fields k o n = record { kind = k; operator = o; children = n; symbol_number = 0; value = 0 }

abbrev pub operation_fields : Operation → ℕ → Fields
operation_fields (unary o) n = inner_fields 3 (unary_number o) n
operation_fields (binary o) n = inner_fields 4 (binary_number o) n
operation_fields (compare o) n = inner_fields 5 (compare_number o) n
operation_fields (call f) n = inner_fields 7 (function_number f) n

-- the fields of a head with n children
abbrev pub fields_of : Head → ℕ → Fields
fields_of (number b) n = record { kind = 0; operator = 0; children = n; symbol_number = 0; value = b }
fields_of (truth b) n = record { kind = 1; operator = 0; children = n; symbol_number = 0; value = cond b 1 0 }
fields_of (symbol i) n = record { kind = 2; operator = 0; children = n; symbol_number = i; value = 0 }
fields_of (operation o) n = operation_fields o n
fields_of (junction j) n = inner_fields 6 (junction_number j) n
fields_of ifelse n = inner_fields 7 14 n
fields_of conditional n = inner_fields 8 0 n
fields_of malformed n = inner_fields 255 0 n

unfoldable pub node_bytes : Fields → List ℕ
node_bytes f =
    f.kind ∷ f.operator ∷ (little_endian 2 f.children ++ little_endian 4 f.symbol_number ++ little_endian 8 f.value)

-- the bytes of a formula
unfoldable mutual
  unfolding node_bytes

  pub encode : Formula → List ℕ
  encode (node h ts) = node_bytes (fields_of h (count ts)) ++ encode_all ts

  pub encode_all : Formulas → List ℕ
  encode_all last = []
  encode_all (next t ts) = encode t ++ encode_all ts
