-- The table of a survey: a row for each node.
use Rattle.std.specs.Prelude.{◌≡◌, Bool, true, false, List, ℕ, zero, suc, ◌+◌, ◌*◌, ◌<◌, ◌≤◌, length, get_or}
use Rattle.std.specs.Prelude.{Option as Given, None, Some}
use Rattle.std.proofs.Math.Option.{Option, none, some}
use Rattle.formula.specs.Formula.{Formula, Formulas, last, next, count, size, depth, depends, well_formed}
use Rattle.formula.specs.Optional.{option_of}
use Rattle.formula.specs.Text.{byte_at}
use Rattle.formula.specs.Node.{node_size, tree_at}
use Rattle.derivative.specs.Differentiate.{differentiate, first_depends, second_literal}
use Rattle.derivative.specs.Attributes.{attributes_of}
use Rattle.derivative.specs.Attributes as Spec
use Rattle.reader.specs.Read.{is_some}
use Rattle.rules.specs.Notation.{rule_number, code_at}
use Rattle.rules.specs.declared.RulePart.{RulePart}
use Rattle.survey.specs.Derived.{derived, children_of}
use Rattle.survey.specs.declared.Attributes.{Attributes}
use Rattle.survey.specs.declared.Row.{Row}
use Rattle.survey.specs.declared.Found.{Found}

-- the tree of a node, by its number
unfoldable pub tree : List ℕ → ℕ → Formula
tree f k = tree_at f (node_size * k)

-- so many trees one after another
unfoldable pub trees : List ℕ → ℕ → ℕ → Formulas
unfolding tree
trees f zero k = last
trees f (suc n) k = next (tree f k) (trees f n (k + size (tree f k)))

-- attributes as the code holds them
abbrev pub reading : Attributes → Spec.Attributes
reading a = record { nodes = a.nodes; levels = a.levels; bits = option_of a.literal }

-- those of a derivative where there is one
abbrev pub readings : Given Attributes → Option Spec.Attributes
readings None = none
readings (Some a) = some (reading a)

-- and of the literal 0 where there is none
abbrev pub or_literal : Given Attributes → Attributes
or_literal None = record { nodes = 1; levels = 1; literal = Some 0 }
or_literal (Some a) = a

abbrev pub found : Found → Spec.Survey
found r = record { own = reading r.own; has_symbol = r.has; diff = readings r.diff }

abbrev pub empty_row : Row
empty_row = record { nodes = 0; levels = 0; has = false; fine = false; diff = record { nodes = 0; levels = 0; literal = None } }

abbrev pub row_in : List Row → ℕ → Row
row_in T k = get_or T k empty_row

-- a row has the node's size and depth
pub record Own (f : List ℕ) (T : List Row) (k : ℕ) : Type 0 where
  pub nodes : (row_in T k).nodes ≡ size (tree f k)
  pub levels : (row_in T k).levels ≡ depth (tree f k)

-- and what is known of its derivative
pub record Surveyed (s : ℕ) (by_state : Bool) (f : List ℕ) (T : List Row) (k : ℕ) : Type 0 where
  pub has : (row_in T k).has ≡ depends s (tree f k)
  pub fine : (row_in T k).fine ≡ is_some (differentiate s by_state (tree f k))
  pub diff : reading (row_in T k).diff ≡ attributes_of (derived s by_state (tree f k))

-- the sizes of a node and of all below it are known
pub record Owned (f : List ℕ) (T : List Row) (k : ℕ) : Type 0 where
  pub formed : well_formed (tree f k) ≡ true
  pub long : k + size (tree f k) ≤ length T
  pub own : (j : ℕ) → k ≤ j → j < k + size (tree f k) → Own f T j

-- and the derivatives of all below it
pub record Ready (s : ℕ) (by_state : Bool) (f : List ℕ) (T : List Row) (k : ℕ) : Type 0 where
  pub owned : Owned f T k
  pub below : (j : ℕ) → k < j → j < k + size (tree f k) → Surveyed s by_state f T j

abbrev pub nth : Formulas → ℕ → Option Formula
nth last i = none
nth (next t ts) zero = some t
nth (next t ts) (suc i) = nth ts i

-- the number of tree i of trees one after another, the first of number k
abbrev pub number_from : ℕ → Formulas → ℕ → ℕ
number_from k last i = k
number_from k (next t ts) zero = k
number_from k (next t ts) (suc i) = number_from (k + size t) ts i

-- r is the number of child i
pub record IsChild (f : List ℕ) (k i r : ℕ) : Type 0 where
  pub after : k < r
  pub ends : r + size (tree f r) ≤ k + size (tree f k)
  pub formed : well_formed (tree f r) ≡ true
  pub shallower : depth (tree f r) < depth (tree f k)
  pub is : nth (children_of (tree f k)) i ≡ some (tree f r)
  pub number : number_from (k + 1) (children_of (tree f k)) i ≡ r

-- the number of a node's rule
unfoldable pub number_of : ℕ → Bool → List ℕ → ℕ → ℕ
unfolding tree
number_of s by_state f k =
    let ts = children_of (tree f k) in
    rule_number by_state (first_depends s ts) (count ts) (second_literal ts) (byte_at f (node_size * k)) (byte_at f (node_size * k + 1))

-- the rule of a node is the whole rule of its number, where that has a code
abbrev pub IsRule : ℕ → Bool → List ℕ → ℕ → Given RulePart → Type 0
IsRule s by_state f k None = code_at (number_of s by_state f k) 0 ≡ 0
IsRule s by_state f k (Some r) = (r ≡ record { rule = number_of s by_state f k; start = 0; levels = 16 }) × (code_at (number_of s by_state f k) 0 ≡ 0 → ⊥)

-- ---- filling the table

-- a well-formed tree of so many levels, with rows for it
pub record Room (f : List ℕ) (T : List Row) (k levels : ℕ) : Type 0 where
  pub formed : well_formed (tree f k) ≡ true
  pub deep : depth (tree f k) ≤ levels
  pub long : k + size (tree f k) ≤ length T

-- the rows of a node and of all below it are filled, those before and after them as they were
pub record Filled (s : ℕ) (by_state : Bool) (f : List ℕ) (T T' : List Row) (k : ℕ) : Type 0 where
  pub own : (j : ℕ) → k ≤ j → j < k + size (tree f k) → Own f T' j
  pub survey : (j : ℕ) → k ≤ j → j < k + size (tree f k) → Surveyed s by_state f T' j
  pub before : (j : ℕ) → j < k → row_in T' j ≡ row_in T j
  pub after : (j : ℕ) → k + size (tree f k) ≤ j → row_in T' j ≡ row_in T j
