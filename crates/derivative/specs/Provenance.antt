-- "It must be proved that each node's record is the rule, and the formula node it is applied at, by which the definition of the derivative writes that
-- node, and no other." What a record says of its node and of the formula's node, without the rules' templates.
use Rattle.std.specs.Prelude.{◌≡◌, Bool, true, false, ◌&&◌, ◌||◌, List, [], ◌∷◌, ◌++◌, ℕ, zero, suc, ◌+◌, ◌≤◌, ◌<◌, get_or, take, drop, eqb, leb, ltb}
use Rattle.std.proofs.Math.Option.{Option, none, some}
use Rattle.std.proofs.Math.ListN.{get_elem?}
use Rattle.arithmetic.specs.Constant.{ln_ten_bits}
use Rattle.formula.specs.Operator.{Binary, Compare, Function, binary, compare, call, Add, Multiply, Divide, Power, Lt, Gt, Eq, Log, Sin, Cos, Floor, Hill}
use Rattle.formula.specs.Formula.{Head, number, operation, conditional, Formula, Formulas, node, last, next, count, size, depends}
use Rattle.formula.specs.Node.{fields_of}
use Rattle.derivative.specs.Rules.{less_one}
use Rattle.derivative.specs.Differentiate.{second_literal}
use Rattle.derivative.specs.Records.{Record, Recorded, Recordeds, noted, stop, more, erase, records, copy, arm, copied, beside_zero, to_the_zeroth, without_symbol, outer, by_rule, recorded_literal}

-- ---- nodes by their numbers

-- all parts of a formula, in byte order: part k has the formula's node k on top
abbrev mutual
  pub parts : Formula → List Formula
  parts (node h ts) = node h ts ∷ parts_all ts

  pub parts_all : Formulas → List Formula
  parts_all last = []
  parts_all (next t ts) = parts t ++ parts_all ts

-- of a tree with records
abbrev mutual
  pub subtrees : Recorded → List Recorded
  subtrees (noted r h ts) = noted r h ts ∷ subtrees_all ts

  pub subtrees_all : Recordeds → List Recorded
  subtrees_all stop = []
  subtrees_all (more t ts) = subtrees t ++ subtrees_all ts

abbrev pub top : Recorded → Record
top (noted r h ts) = r

abbrev pub root_head : Formula → Head
root_head (node h ts) = h

-- ---- what an arm writes

-- the same kind, operator, symbol and value
abbrev pub same_head : Head → Head → Bool
same_head g h =
    let a = fields_of g 0 in
    let b = fields_of h 0 in
    eqb a.kind b.kind && eqb a.operator b.operator && eqb a.symbol_number b.symbol_number && eqb a.value b.value

abbrev pub is_one_of : List Head → Head → Bool
is_one_of [] g = false
is_one_of (h ∷ hs) g = same_head g h || is_one_of hs g

abbrev two : Binary → Head
two o = operation (binary o)

abbrev test : Compare → Head
test o = operation (compare o)

abbrev of : Function → Head
of f = operation (call f)

abbrev 0·0 : Head
0·0 = number 0

abbrev 1·0 : Head
1·0 = number 0x3ff0000000000000

abbrev 2·0 : Head
2·0 = number 0x4000000000000000

abbrev 3·0 : Head
3·0 = number 0x4008000000000000

abbrev 0·5 : Head
0·5 = number 0x3fe0000000000000

abbrev 1·5 : Head
1·5 = number 0x3ff8000000000000

abbrev -1·0 : Head
-1·0 = number 0xbff0000000000000

abbrev 1e-8 : Head
1e-8 = number 0x3e45798ee2308c3a

-- Power's arm writes the exponent, where that is a literal, and the exponent less 1
abbrev pub power_nodes : Option ℕ → List Head
power_nodes (some n) = number n ∷ number (less_one n) ∷ two Multiply ∷ two Power ∷ []
power_nodes none = conditional ∷ test Eq ∷ 0·0 ∷ 1·0 ∷ -1·0 ∷ two Add ∷ two Multiply ∷ two Power ∷ of Log ∷ []

-- The nodes that each arm writes, by its number: none for a copy, symbol, none for Positive, Negative; Add, Subtract, Multiply, Divide, Power, Modulo;
-- Conditional, Ifelse, Min and Max, Abs, density, Hill; Exp, Log, Log10, Sqrt, Sin, Cos, Tan, Tanh.
abbrev pub written_nodes : Option ℕ → List (List Head)
written_nodes exponent =
    []
    ∷ (1·0 ∷ [])
    ∷ []
    ∷ (-1·0 ∷ two Multiply ∷ [])
    ∷ (two Add ∷ [])
    ∷ (-1·0 ∷ two Add ∷ two Multiply ∷ [])
    ∷ (two Add ∷ two Multiply ∷ [])
    ∷ (2·0 ∷ -1·0 ∷ two Add ∷ two Multiply ∷ two Divide ∷ two Power ∷ [])
    ∷ power_nodes exponent
    ∷ (0·0 ∷ -1·0 ∷ two Add ∷ two Multiply ∷ two Divide ∷ of Floor ∷ [])
    ∷ (conditional ∷ [])
    ∷ (conditional ∷ [])
    ∷ (conditional ∷ test Eq ∷ [])
    ∷ (conditional ∷ test Gt ∷ test Lt ∷ 0·0 ∷ -1·0 ∷ two Multiply ∷ [])
    ∷ (conditional ∷ test Gt ∷ 0·0 ∷ -1·0 ∷ 0·5 ∷ 1·5 ∷ 2·0 ∷ 3·0 ∷ two Add ∷ two Multiply ∷ two Divide ∷ two Power ∷ [])
    ∷ (conditional ∷ test Gt ∷ test Lt ∷ test Eq ∷ 0·0 ∷ 1·0 ∷ -1·0 ∷ 1e-8 ∷ two Add ∷ two Multiply ∷ two Divide ∷ of Hill ∷ of Log ∷ [])
    ∷ (two Multiply ∷ [])
    ∷ (1·0 ∷ two Divide ∷ two Multiply ∷ [])
    ∷ (1·0 ∷ number ln_ten_bits ∷ two Divide ∷ two Multiply ∷ [])
    ∷ (1·0 ∷ 2·0 ∷ two Divide ∷ two Multiply ∷ [])
    ∷ (of Cos ∷ two Multiply ∷ [])
    ∷ (-1·0 ∷ of Sin ∷ two Multiply ∷ [])
    ∷ (1·0 ∷ 2·0 ∷ of Cos ∷ two Power ∷ two Divide ∷ two Multiply ∷ [])
    ∷ (1·0 ∷ 2·0 ∷ -1·0 ∷ two Power ∷ two Add ∷ two Multiply ∷ [])
    ∷ []

-- how many children an arm with more than one looks at
abbrev pub looked_at : List ℕ
looked_at = 0 ∷ 0 ∷ 0 ∷ 0 ∷ 2 ∷ 2 ∷ 2 ∷ 2 ∷ 2 ∷ 2 ∷ 3 ∷ 3 ∷ 0 ∷ 0 ∷ 3 ∷ 3 ∷ []

-- whether the arm of this part writes such a node (or a 0 in the place of a child that isn't there: compile refuses such a formula as 5)
abbrev pub writes : Formula → Head → Bool
writes (node h ts) g =
    (same_head g 0·0 && ltb (count ts) (get_or looked_at (arm h) 0)) || is_one_of (get_or (written_nodes (second_literal ts)) (arm h) []) g

-- ---- what a record says

-- whether these are all at nodes of the formula from one up to another
abbrev pub all_between : ℕ → ℕ → List Record → Bool
all_between from to [] = true
all_between from to (r ∷ rs) = leb from r.source && ltb r.source to && all_between from to rs

-- Of a part t of the derivative with the record (r, k) on top, beside the outer nodes of 0 × formula + derivative.
pub record Says (s : ℕ) (f : Formula) (t : Recorded) : Type 0 where
  -- k is the number of a node of the formula: of the part
  pub part : Formula
  pub is_part : get_elem? (parts f) (top t).source ≡ some part
  -- all records of t are at nodes of that part
  pub is_local : all_between (top t).source ((top t).source + size part) (records t) ≡ true
  -- 0: it is a copy of that part, whole, and the records after it are those of the part's nodes, in order
  pub if_copied : (top t).rule ≡ copied → t ≡ copy (top t).source part
  -- 1 to 23: the part has the symbol, r is the number of its head's arm, and this arm writes such a node
  pub if_arm : 1 ≤ (top t).rule → (top t).rule ≤ 23
      → (depends s part ≡ true) × ((top t).rule ≡ arm (root_head part)) × (writes part (root_head (erase t)) ≡ true)
  -- 24: it is the literal 0, and the part has the symbol
  pub if_beside_zero : (top t).rule ≡ beside_zero → (depends s part ≡ true) × (t ≡ recorded_literal beside_zero (top t).source 0)
  -- 26: it is the literal 0, and the part lacks the symbol
  pub if_without_symbol : (top t).rule ≡ without_symbol → (depends s part ≡ false) × (t ≡ recorded_literal without_symbol (top t).source 0)
  -- no other: never Positive's arm, which writes nothing, never the 1 of `power`, and 27 for the outer nodes alone
  pub not_positive : (top t).rule ≡ 2 → ⊥
  pub not_zeroth : (top t).rule ≡ to_the_zeroth → ⊥
  pub not_above : (top t).rule ≤ without_symbol

-- the records of n nodes copied, from the formula's node k on
abbrev pub numbered : ℕ → ℕ → List Record
numbered k zero = []
numbered k (suc n) = by_rule copied k ∷ numbered (suc k) n

-- The same of formula, derivative and list: node j of the derivative d has the record r, (rule, k). The part on top of which node k stands is `part`, that of
-- node j is `term`.
pub record Told (s : ℕ) (f d : Formula) (list : List Record) (j : ℕ) (r : Record) : Type 0 where
  pub part : Formula
  pub is_part : get_elem? (parts f) r.source ≡ some part
  pub term : Formula
  pub is_term : get_elem? (parts d) j ≡ some term
  -- node j and all below it are written at node k or below it
  pub is_local : all_between r.source (r.source + size part) (take (size term) (drop j list)) ≡ true
  -- 0: node j and all below it are node k and all below it, and their records are (0, k), (0, k + 1) and so on
  pub if_copied : r.rule ≡ copied → (term ≡ part) × (take (size part) (drop j list) ≡ numbered r.source (size part))
  -- 1 to 23: node k has the symbol, the rule is its head's, and this arm writes such a node
  pub if_arm : 1 ≤ r.rule → r.rule ≤ 23 → (depends s part ≡ true) × (r.rule ≡ arm (root_head part)) × (writes part (root_head term) ≡ true)
  -- 24: the literal 0, and node k has the symbol
  pub if_beside_zero : r.rule ≡ beside_zero → (depends s part ≡ true) × (term ≡ node (number 0) last)
  -- 26: the literal 0, and node k and all below it lack the symbol
  pub if_without_symbol : r.rule ≡ without_symbol → (depends s part ≡ false) × (term ≡ node (number 0) last)
  -- 27: the first three nodes, at node 0, and no others
  pub if_outer : r.rule ≡ outer → (j < 3) × (r.source ≡ 0)
  pub if_first : j < 3 → r.rule ≡ outer
  -- no other number
  pub not_positive : r.rule ≡ 2 → ⊥
  pub not_zeroth : r.rule ≡ to_the_zeroth → ⊥
  pub not_above : r.rule ≤ outer
