-- "0 × formula + derivative, by the rules of `derivative.rs`. A part without the symbol gives 0 before any rule is tried."
use Rattle.std.specs.Prelude.{Bool, false, cond, List, [], ◌∷◌, ℕ}
use Rattle.std.proofs.Math.Option.{Option, none, some}
use Rattle.formula.specs.Operator.{binary, Add, Multiply}
use Rattle.formula.specs.Formula.{Head, number, truth, symbol, operation, junction, ifelse, conditional, malformed, Formula, Formulas, node, last, next, of_list, to_list, count, depends}
use Rattle.derivative.specs.Rules.{Algebra, Rule, instance, rule_of, zero_bits, one_bits}

-- a literal's bits
abbrev pub literal_head : Head → Option ℕ
literal_head (number b) = some b
literal_head (truth b) = none
literal_head (symbol i) = none
literal_head (operation o) = none
literal_head (junction j) = none
literal_head ifelse = none
literal_head conditional = none
literal_head malformed = none

abbrev pub literal_bits : Formula → Option ℕ
literal_bits (node h ts) = literal_head h

abbrev pub holds : (ℕ → Bool) → Option ℕ → Bool
holds p none = false
holds p (some b) = p b

abbrev pub formulas : Algebra Formula
formulas =
    record {
      node = λ h ts. node h (of_list ts);
      zero_product = node (number 0) last;
      zeroth_power = node (number 0x3ff0000000000000) last;
      is_zero = λ t. holds zero_bits (literal_bits t);
      is_one = λ t. holds one_bits (literal_bits t);
    }

abbrev pub first_depends : ℕ → Formulas → Bool
first_depends s last = false
first_depends s (next t ts) = depends s t

abbrev pub first_literal : Formulas → Option ℕ
first_literal last = none
first_literal (next t ts) = literal_bits t

abbrev pub second_literal : Formulas → Option ℕ
second_literal last = none
second_literal (next t ts) = first_literal ts

abbrev pub and_then : {A B : Type 0} → Option A → (A → Option B) → Option B
and_then none f = none
and_then (some a) f = f a

abbrev pub applied : {A : Type 0} → Algebra A → Option Rule → A → List A → List A → Option A
applied G none own children diffs = none
applied G (some r) own children diffs = some (instance G (record { own = own; children = children; diffs = diffs }) r)

abbrev pub the_rule : ℕ → Bool → Head → Formulas → Option Rule
the_rule s by_state h ts = rule_of by_state (first_depends s ts) (count ts) (second_literal ts) h

-- The derivative by the symbol s. d of each child is asked before the rule: none is 8.
abbrev mutual
  pub differentiate : ℕ → Bool → Formula → Option Formula
  differentiate s by_state (node h ts) =
      cond (depends s (node h ts))
      (and_then (differentiate_all s by_state ts) (λ ds. applied formulas (the_rule s by_state h ts) (node h ts) (to_list ts) ds))
      (some (node (number 0) last))

  pub differentiate_all : ℕ → Bool → Formulas → Option (List Formula)
  differentiate_all s by_state last = some []
  differentiate_all s by_state (next t ts) =
      and_then (differentiate s by_state t) (λ d. and_then (differentiate_all s by_state ts) (λ ds. some (d ∷ ds)))

abbrev pub binary_node : Head → Formula → Formula → Formula
binary_node h a b = node h (next a (next b last))

-- 0 × formula + derivative
abbrev pub with_primal : Formula → Formula → Formula
with_primal f d = binary_node (operation (binary Add)) (binary_node (operation (binary Multiply)) (node (number 0) last) f) d

abbrev pub derivative : ℕ → Bool → Formula → Option Formula
derivative s by_state f = and_then (differentiate s by_state f) (λ d. some (with_primal f d))
