-- What the writers of a derivative's parts write, and what they are given. A writer is asked for the nodes of a part or for its records.
use Rattle.std.specs.Prelude.{◌≡◌, Bool, true, cond, List, [], ◌∷◌, ◌++◌, ℕ, suc, ◌+◌, ◌*◌, ◌<◌, ◌≤◌, eqb, length, drop, get_or}
use Rattle.std.proofs.Math.Option.{some}
use Rattle.formula.specs.Formula.{Formula, Formulas, last, next, node, count, size, depth, depends}
use Rattle.formula.specs.Node.{encode, inner_fields, node_bytes, fields_of, node_size}
use Rattle.derivative.specs.Rules.{Algebra, Parts, instance, instances, extremum_from, add_of, mul_of, zero_of}
use Rattle.derivative.specs.Differentiate.{derivative, second_literal, the_rule}
use Rattle.derivative.specs.Records.{Record, Recorded, Recordeds, noted, stop, more, gathered, erase_all, arm, by_rule, recorded_literal, copy, copies, written_by, beside_zero, to_the_zeroth, without_symbol, outer, record_bytes, record_size, list_bytes}
use Rattle.reader.specs.Read.{is_some}
use Rattle.rules.specs.Notation.{rules_from, end_at, extremum, or_zero, literal_code}
use Rattle.survey.specs.Derived.{rule_for, children_of, head_of_tree, or_else}
use Rattle.survey.specs.Table.{tree, Owned, Surveyed}
use Rattle.survey.specs.declared.Row.{Row}
use Rattle.differentiate.specs.declared.Origin.{Origin}

-- t is written to the start, and its length is told
pub record Writes (t out out' : List ℕ) (r : ℕ) : Type 0 where
  pub count : r ≡ length t
  pub held : out' ≡ t ++ drop (length t) out

-- all rows of a node and of what is below it
pub record Known (s : ℕ) (by_state : Bool) (f : List ℕ) (T : List Row) (k : ℕ) : Type 0 where
  pub owned : Owned f T k
  pub survey : (j : ℕ) → k ≤ j → j < k + size (tree f k) → Surveyed s by_state f T j

-- a node, its rows, the levels that it may have, and room for what is to be written
pub record Task (s : ℕ) (by_state : Bool) (f : List ℕ) (T : List Row) (k levels : ℕ) (t out : List ℕ) : Type 0 where
  pub known : Known s by_state f T k
  pub deep : depth (tree f k) ≤ levels
  pub room : length t ≤ length out

-- ---- nodes, or their records

-- where m, the record of a node, else its bytes
abbrev pub start : Bool → Record → List ℕ → List ℕ
start m r b = cond m (record_bytes r) b

-- the bytes of a tree's records, or of its nodes
unfoldable mutual
  pub bytes : Bool → Recorded → List ℕ
  bytes m (noted r h ts) = start m r (node_bytes (fields_of h (count (erase_all ts)))) ++ bytes_all m ts

  pub bytes_all : Bool → Recordeds → List ℕ
  bytes_all m stop = []
  bytes_all m (more t ts) = bytes m t ++ bytes_all m ts

-- the bytes that a node or its record takes
abbrev pub step : Bool → ℕ
step m = cond m record_size node_size

-- the number of an arm by a node's kind and operator
abbrev pub coded_arm : ℕ → ℕ → ℕ
coded_arm kind operator =
    get_or
    (0
    ∷ 0
    ∷ 1
    ∷ get_or (2 ∷ 3 ∷ []) operator 0
    ∷ get_or (4 ∷ 5 ∷ 6 ∷ 7 ∷ 8 ∷ 9 ∷ []) operator 0
    ∷ 0
    ∷ 0
    ∷ get_or (16 ∷ 17 ∷ 18 ∷ 19 ∷ 20 ∷ 21 ∷ 22 ∷ 23 ∷ 13 ∷ 0 ∷ 0 ∷ 12 ∷ 12 ∷ 15 ∷ 11 ∷ 14 ∷ []) operator 0
    ∷ 10
    ∷ [])
    kind 0

-- ---- the parts of a derivative

-- what the arm of node k, the tree t, writes
abbrev pub arm_of : Formula → ℕ
arm_of t = arm (head_of_tree t)

-- the number in the record of a node that is no copy
abbrev pub rule_by : Origin → Formula → ℕ
rule_by Origin.Arm t = arm_of t
rule_by Origin.BesideZero t = beside_zero
rule_by Origin.ToTheZeroth t = to_the_zeroth
rule_by Origin.WithoutSymbol t = without_symbol
rule_by Origin.Outer t = outer

abbrev pub arms : ℕ → Formula → Algebra Recorded
arms k t = written_by (arm_of t) k

abbrev pub arm_literal : Bool → ℕ → Formula → ℕ → List ℕ
arm_literal m k t b = bytes m (recorded_literal (arm_of t) k b)

-- the derivative of node k with its records, with a literal 0 where there is none
abbrev mutual
  pub recorded : ℕ → Bool → ℕ → Formula → Recorded
  recorded s by_state k (node h ts) =
      cond (depends s (node h ts))
      (or_else (written_by (arm h) k) (recorded_literal without_symbol k 0) (the_rule s by_state h ts)
      (record { own = copy k (node h ts); children = copies (suc k) ts; diffs = recorded_all s by_state (suc k) ts }))
      (recorded_literal without_symbol k 0)

  pub recorded_all : ℕ → Bool → ℕ → Formulas → List Recorded
  recorded_all s by_state k last = []
  recorded_all s by_state k (next t ts) = recorded s by_state k t ∷ recorded_all s by_state (k + size t) ts

abbrev pub recorded_parts : ℕ → Bool → ℕ → Formula → Parts Recorded
recorded_parts s by_state k t =
    record { own = copy k t; children = copies (suc k) (children_of t); diffs = recorded_all s by_state (suc k) (children_of t) }

-- child i, and its derivative
abbrev pub copy_of : ℕ → Formula → ℕ → Recorded
copy_of k t i = get_or (copies (suc k) (children_of t)) i (zero_of (arms k t))

abbrev pub recorded_of : ℕ → Bool → ℕ → Formula → ℕ → Recorded
recorded_of s by_state k t i = get_or (recorded_all s by_state (suc k) (children_of t)) i (zero_of (arms k t))

-- what the part of a rule that starts at a code gives
unfoldable pub part : ℕ → Bool → ℕ → Formula → ℕ → ℕ → ℕ → Recorded
part s by_state k t d q i = instance (arms k t) (recorded_parts s by_state k t) (rule_for t d q i)

-- a literal of a rule
abbrev pub literal_part : ℕ → Formula → ℕ → Recorded
literal_part k t o =
    let b = literal_code (or_zero (second_literal (children_of t))) o in
    cond (eqb o 11) (recorded_literal to_the_zeroth k b) (recorded_literal (arm_of t) k b)

-- so many parts one after another
unfoldable pub parts_bytes : Bool → ℕ → Bool → ℕ → Formula → ℕ → ℕ → ℕ → ℕ → List ℕ
parts_bytes m s by_state k t d q left i =
    bytes_all m (gathered (instances (arms k t) (recorded_parts s by_state k t) (rules_from (λ j. rule_for t d q j) (λ j. end_at d q j) left i)))

-- the start of a node that an arm writes
abbrev pub arm_node : Bool → ℕ → Formula → ℕ → ℕ → ℕ → List ℕ
arm_node m k t kind operator count = start m (by_rule (arm_of t) k) (node_bytes (inner_fields kind operator count))

-- Min and Max from child i on
unfoldable pub extremum_bytes : Bool → ℕ → Bool → ℕ → Formula → ℕ → ℕ → List ℕ
extremum_bytes m s by_state k t i left = bytes m (instance (arms k t) (recorded_parts s by_state k t) (extremum_from i left))

unfoldable pub extremum_tree : ℕ → Bool → ℕ → Formula → Recorded
extremum_tree s by_state k t = instance (arms k t) (recorded_parts s by_state k t) (extremum (count (children_of t)))

-- a conditional up to its arms: whether child i equals the extremum
abbrev pub tie_bytes : Bool → ℕ → Formula → ℕ → List ℕ
tie_bytes m k t i = ((arm_node m k t 8 0 3 ++ arm_node m k t 5 4 2) ++ bytes m (copy_of k t i)) ++ bytes m (copy k t)

-- the sum and the product of two parts one after another
unfoldable pub sum_bytes : Bool → ℕ → Bool → ℕ → Formula → ℕ → ℕ → ℕ → List ℕ
unfolding part
sum_bytes m s by_state k t d q i = bytes m (add_of (arms k t) (part s by_state k t d q i) (part s by_state k t d q (end_at d q i)))

unfoldable pub product_bytes : Bool → ℕ → Bool → ℕ → Formula → ℕ → ℕ → ℕ → List ℕ
unfolding part
product_bytes m s by_state k t d q i = bytes m (mul_of (arms k t) (part s by_state k t d q i) (part s by_state k t d q (end_at d q i)))

-- an outer node
abbrev pub outer_node : Bool → ℕ → ℕ → ℕ → ℕ → List ℕ
outer_node m k kind operator count = start m (by_rule outer k) (node_bytes (inner_fields kind operator count))

-- an Add, a Multiply, the literal 0 and the formula, whose root has the number k
abbrev pub primal_bytes : Bool → ℕ → Formula → List ℕ
primal_bytes m k t = ((outer_node m k 4 0 2 ++ outer_node m k 4 2 2) ++ bytes m (recorded_literal outer k 0)) ++ bytes m (copy k t)

-- what is asked of a derivative: its records, or its nodes
abbrev pub asked : Bool → List Record → Formula → List ℕ
asked m rs d = cond m (list_bytes rs) (encode d)

-- a formula that has a derivative, its rows, and room for what is asked of the derivative
pub record Job (m : Bool) (s : ℕ) (by_state : Bool) (f : List ℕ) (T : List Row) (levels : ℕ) (out : List ℕ) : Type 0 where
  pub known : Known s by_state f T 0
  pub deep : depth (tree f 0) ≤ levels
  pub fine : is_some (derivative s by_state (tree f 0)) ≡ true
  pub room : (d : Formula) → derivative s by_state (tree f 0) ≡ some d → step m * size d ≤ length out
