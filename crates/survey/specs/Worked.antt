-- The attributes that a rule gives, by the attributes of its parts.
use Rattle.std.specs.Prelude.{Bool, List, map, ℕ, suc, min, ◌≤◌}
use Rattle.std.proofs.Math.Option.{none, some}
use Rattle.formula.specs.Formula.{Formula, to_list}
use Rattle.derivative.specs.Rules.{Parts, instance, instances}
use Rattle.derivative.specs.Attributes.{Attributes, attribute_algebra, attributes_of, total_nodes, most_levels}
use Rattle.rules.specs.Notation.{rules_from, end_at}
use Rattle.survey.specs.Derived.{derived_all, children_of, rule_for}
use Rattle.survey.specs.declared.Attributes as Declared

-- of a literal, and of a node that is none
abbrev pub literal_attributes : ℕ → Attributes
literal_attributes b = record { nodes = 1; levels = 1; bits = some b }

abbrev pub over_sum : ℕ → ℕ → Attributes
over_sum nodes levels = record { nodes = min 16385 (suc nodes); levels = min 129 (suc levels); bits = none }

abbrev pub inner : List Attributes → Attributes
inner as' = over_sum (total_nodes as') (most_levels as')

-- within the caps
abbrev pub Capped : Declared.Attributes → Type 0
Capped a = (a.nodes ≤ 16385) × (a.levels ≤ 129)

abbrev pub attribute_parts : ℕ → Bool → Formula → Parts Attributes
attribute_parts s by_state t =
    record {
      own = attributes_of t;
      children = map attributes_of (to_list (children_of t));
      diffs = map attributes_of (derived_all s by_state (children_of t));
    }

unfoldable pub worked : ℕ → Bool → Formula → ℕ → ℕ → ℕ → Attributes
worked s by_state t d q i = instance attribute_algebra (attribute_parts s by_state t) (rule_for t d q i)

-- of so many rules one after another
unfoldable pub worked_all : ℕ → Bool → Formula → ℕ → ℕ → ℕ → ℕ → List Attributes
worked_all s by_state t d q left i =
    instances attribute_algebra (attribute_parts s by_state t) (rules_from (λ j. rule_for t d q j) (λ j. end_at d q j) left i)
