-- What is known of a derivative before a node of it is written: its size and depth, capped above the limits, and a literal's bits. One pass over the
-- formula, each child worked out once.
use Rattle.std.specs.Prelude.{Bool, false, cond, ◌&&◌, ◌||◌, List, [], ◌∷◌, ℕ, suc, ◌+◌, min, max, length, leb}
use Rattle.std.proofs.Math.Option.{Option, none, some}
use Rattle.formula.specs.Operator.{binary, Add, Multiply}
use Rattle.formula.specs.Formula.{Head, number, operation, Formula, Formulas, node, last, next, size, depth, is_symbol}
use Rattle.derivative.specs.Rules.{Algebra, rule_of, zero_bits, one_bits}
use Rattle.derivative.specs.Differentiate.{literal_head, literal_bits, holds, and_then, applied}

pub record Attributes : Type 0 where
  -- at most 16,385
  pub nodes : ℕ
  -- at most 129
  pub levels : ℕ
  -- of a literal
  pub bits : Option ℕ

abbrev pub total_nodes : List Attributes → ℕ
total_nodes [] = 0
total_nodes (a ∷ as') = a.nodes + total_nodes as'

abbrev pub most_levels : List Attributes → ℕ
most_levels [] = 0
most_levels (a ∷ as') = max a.levels (most_levels as')

abbrev pub over : Head → List Attributes → Attributes
over h as' = record { nodes = min 16385 (suc (total_nodes as')); levels = min 129 (suc (most_levels as')); bits = literal_head h }

-- a rule's instance over attributes
abbrev pub attribute_algebra : Algebra Attributes
attribute_algebra =
    record {
      node = over;
      zero_product = over (number 0) [];
      zeroth_power = over (number 0x3ff0000000000000) [];
      is_zero = λ a. holds zero_bits a.bits;
      is_one = λ a. holds one_bits a.bits;
    }

abbrev pub attributes_of : Formula → Attributes
attributes_of f = record { nodes = min 16385 (size f); levels = min 129 (depth f); bits = literal_bits f }

-- "a derivative, 16,384 [nodes] at depth 128", by capped numbers
abbrev pub within_limit : Attributes → Bool
within_limit a = leb a.nodes 16384 && leb a.levels 128

-- a part's own attributes, whether it has the symbol, and its derivative's attributes where there is one
pub record Survey : Type 0 where
  pub own : Attributes
  pub has_symbol : Bool
  pub diff : Option Attributes

abbrev pub any_symbol : List Survey → Bool
any_symbol [] = false
any_symbol (k ∷ ks) = k.has_symbol || any_symbol ks

abbrev pub owns : List Survey → List Attributes
owns [] = []
owns (k ∷ ks) = k.own ∷ owns ks

abbrev pub diffs : List Survey → Option (List Attributes)
diffs [] = some []
diffs (k ∷ ks) = and_then k.diff (λ d. and_then (diffs ks) (λ ds. some (d ∷ ds)))

abbrev pub first_symbol : List Survey → Bool
first_symbol [] = false
first_symbol (k ∷ ks) = k.has_symbol

abbrev pub first_bits : List Survey → Option ℕ
first_bits [] = none
first_bits (k ∷ ks) = k.own.bits

abbrev pub second_bits : List Survey → Option ℕ
second_bits [] = none
second_bits (k ∷ ks) = first_bits ks

-- a node's survey by its children's
abbrev pub surveyed : ℕ → Bool → Head → List Survey → Survey
surveyed s by_state h ks =
    let own = attribute_algebra.node h (owns ks) in
    let has = is_symbol s h || any_symbol ks in
    let rule = rule_of by_state (first_symbol ks) (length ks) (second_bits ks) h in
    record {
      own = own;
      has_symbol = has;
      diff =
          cond has (and_then (diffs ks) (λ ds. applied attribute_algebra rule own (owns ks) ds)) (some (attribute_algebra.node (number 0) []));
    }

abbrev mutual
  pub survey : ℕ → Bool → Formula → Survey
  survey s by_state (node h ts) = surveyed s by_state h (survey_all s by_state ts)

  pub survey_all : ℕ → Bool → Formulas → List Survey
  survey_all s by_state last = []
  survey_all s by_state (next t ts) = survey s by_state t ∷ survey_all s by_state ts

-- of 0 × formula + derivative
abbrev pub primal_attributes : Attributes → Attributes → Attributes
primal_attributes f d =
    let G = attribute_algebra in
    G.node (operation (binary Add)) (G.node (operation (binary Multiply)) (G.node (number 0) [] ∷ f ∷ []) ∷ d ∷ [])

abbrev pub derivative_attributes : Survey → Option Attributes
derivative_attributes k = and_then k.diff (λ d. some (primal_attributes k.own d))
