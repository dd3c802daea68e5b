-- The formula as `lower` and the tree reading take it: And, Or and Ifelse are conditionals.
-- "And of a, b, c is read as a ? (b ? c : false) : false, Or as a ? true : (b ? true : c)."
use Rattle.std.specs.Prelude.{Bool, true, false, ℕ, suc}
use Rattle.formula.specs.Operator.{Operation, Junction, And, Or}
use Rattle.formula.specs.Formula.{Head, number, operation, junction, ifelse, conditional, malformed, Formula, Formulas, last, next}
use Rattle.formula.specs.Formula as Written

mutual
  pub data Term : Type 0 where
    literal : ℕ → Term
    truth : Bool → Term
    symbol : ℕ → Term
    apply : Operation → Terms → Term
    branch : Term → Term → Term → Term
    -- And, Or or Ifelse with a wrong count of children: `lower` refuses it as 5 before it looks at a child
    miscounted : Term

  pub data Terms : Type 0 where
    end : Terms
    ◌and◌ : Term → Terms → Terms

infixr 50 ◌and◌
abbrev pub chain : Junction → Term → Terms → Term
chain j t end = t
chain And t (u and us) = branch t (chain And u us) (truth false)
chain Or t (u and us) = branch t (truth true) (chain Or u us)

-- at least two
abbrev pub junction_term : Junction → Terms → Term
junction_term j end = miscounted
junction_term j (t and end) = miscounted
junction_term j (t and u and us) = chain j t (u and us)

-- exactly three
abbrev pub branch_term : Terms → Term
branch_term end = miscounted
branch_term (a and end) = miscounted
branch_term (a and b and end) = miscounted
branch_term (a and b and c and end) = branch a b c
branch_term (a and b and c and d and ds) = miscounted

-- a literal or a symbol has no children
abbrev pub leaf_term : Term → Terms → Term
leaf_term t end = t
leaf_term t (u and us) = miscounted

abbrev pub term_from : Head → Terms → Term
term_from (number b) ts = leaf_term (literal b) ts
term_from (Written.truth b) ts = leaf_term (truth b) ts
term_from (Written.symbol i) ts = leaf_term (symbol i) ts
term_from (operation o) ts = apply o ts
term_from (junction j) ts = junction_term j ts
term_from ifelse ts = branch_term ts
term_from conditional ts = branch_term ts
term_from malformed ts = miscounted

abbrev mutual
  pub term : Formula → Term
  term (Written.node h ts) = term_from h (terms ts)

  pub terms : Formulas → Terms
  terms last = end
  terms (next t ts) = term t and terms ts

abbrev pub term_count : Terms → ℕ
term_count end = 0
term_count (t and ts) = suc (term_count ts)
