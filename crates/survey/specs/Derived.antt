-- The derivative of a part, with the literal 0 where there is none, and what a rule of a node gives.
use Rattle.std.specs.Prelude.{Bool, true, cond, List, [], ◌∷◌, ℕ, get_or}
use Rattle.std.proofs.Math.Option.{Option, none, some}
use Rattle.formula.specs.Formula.{Head, number, Formula, Formulas, node, last, next, count, to_list, depends}
use Rattle.derivative.specs.Rules.{Algebra, Rule, Parts, instance}
use Rattle.derivative.specs.Differentiate.{formulas, the_rule, second_literal}
use Rattle.reader.specs.Read.{is_some}
use Rattle.rules.specs.Notation.{rule_at, or_zero}

abbrev pub zero_literal : Formula
zero_literal = node (number 0) last

-- what a rule gives, where there is one
abbrev pub or_else : {A : Type 0} → Algebra A → A → Option Rule → Parts A → A
or_else G z none e = z
or_else G z (some r) e = instance G e r

abbrev pub or_zero_literal : Option Rule → Parts Formula → Formula
or_zero_literal r e = or_else formulas zero_literal r e

abbrev mutual
  pub derived : ℕ → Bool → Formula → Formula
  derived s by_state (node h ts) =
      cond (depends s (node h ts))
      (or_zero_literal (the_rule s by_state h ts) (record { own = node h ts; children = to_list ts; diffs = derived_all s by_state ts }))
      zero_literal

  pub derived_all : ℕ → Bool → Formulas → List Formula
  derived_all s by_state last = []
  derived_all s by_state (next t ts) = derived s by_state t ∷ derived_all s by_state ts

abbrev pub children_of : Formula → Formulas
children_of (node h ts) = ts

abbrev pub head_of_tree : Formula → Head
head_of_tree (node h ts) = h

-- child i, and its derivative
abbrev pub child_of : Formula → ℕ → Formula
child_of t i = get_or (to_list (children_of t)) i zero_literal

abbrev pub derived_of : ℕ → Bool → Formula → ℕ → Formula
derived_of s by_state t i = get_or (derived_all s by_state (children_of t)) i zero_literal

-- a node, its children and their derivatives
abbrev pub parts_of : ℕ → Bool → Formula → Parts Formula
parts_of s by_state t = record { own = t; children = to_list (children_of t); diffs = derived_all s by_state (children_of t) }

-- the rule of a node that starts at a code
unfoldable pub rule_for : Formula → ℕ → ℕ → ℕ → Rule
rule_for t d q i = rule_at (or_zero (second_literal (children_of t))) (count (children_of t)) d q i

-- whether there is a rule where one is needed
abbrev pub ruled : ℕ → Bool → Formula → Bool
ruled s by_state t = cond (depends s t) (is_some (the_rule s by_state (head_of_tree t) (children_of t))) true
