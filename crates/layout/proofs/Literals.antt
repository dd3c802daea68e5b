-- The literals of a formula are bits of an f64, 8 bytes each.
use Prim.Native.Nat.{◌<◌}
use Rattle.formula.specs.Operator.{And, Junction, Or}
use Rattle.formula.specs.Formula.{Formula, Formulas, Head, conditional, ifelse, junction, last, malformed, next, node, number, operation}
use Rattle.formula.specs.Formula as Written
use Rattle.formula.specs.Term.{Term, Terms, ◌and◌, apply, branch, branch_term, chain, end, junction_term, leaf_term, literal, miscounted, symbol, term, term_from, terms, truth}

-- every literal is the bits of an f64
abbrev mutual
  pub Literals : Term → Type 0
  Literals (literal v) = v < 18446744073709551616
  Literals (truth v) = Unit {0}
  Literals (symbol i) = Unit {0}
  Literals (apply o ts) = AllLiterals ts
  Literals (branch c y z) = Literals c × Literals y × Literals z
  Literals miscounted = Unit {0}

  pub AllLiterals : Terms → Type 0
  AllLiterals end = Unit {0}
  AllLiterals (t and ts) = Literals t × AllLiterals ts

-- ---- of a formula

abbrev pub HeadLiteral : Head → Type 0
HeadLiteral (number v) = v < 18446744073709551616
HeadLiteral (Written.truth v) = Unit {0}
HeadLiteral (Written.symbol i) = Unit {0}
HeadLiteral (operation o) = Unit {0}
HeadLiteral (junction j) = Unit {0}
HeadLiteral ifelse = Unit {0}
HeadLiteral conditional = Unit {0}
HeadLiteral malformed = Unit {0}

abbrev mutual
  pub FormulaLiterals : Formula → Type 0
  FormulaLiterals (node h fs) = HeadLiteral h × FormulasLiterals fs

  pub FormulasLiterals : Formulas → Type 0
  FormulasLiterals last = Unit {0}
  FormulasLiterals (next f fs) = FormulaLiterals f × FormulasLiterals fs

chain_literals : (j : Junction) (t : Term) (us : Terms) → Literals t → AllLiterals us → Literals (chain j t us)
chain_literals j t end l ls = l
chain_literals And t (u and us) l ls = (l, chain_literals And u us ls.0 ls.1, tt)
chain_literals Or t (u and us) l ls = (l, tt, chain_literals Or u us ls.0 ls.1)

junction_literals : (j : Junction) (ts : Terms) → AllLiterals ts → Literals (junction_term j ts)
junction_literals j end ls = tt
junction_literals j (t and end) ls = tt
junction_literals j (t and u and us) ls = chain_literals j t (u and us) ls.0 ls.1

branch_literals : (ts : Terms) → AllLiterals ts → Literals (branch_term ts)
branch_literals end ls = tt
branch_literals (a and end) ls = tt
branch_literals (a and b and end) ls = tt
branch_literals (a and b and c and end) ls = (ls.0, ls.1.0, ls.1.1.0)
branch_literals (a and b and c and d and ds) ls = tt

leaf_literals : (t : Term) (ts : Terms) → Literals t → Literals (leaf_term t ts)
leaf_literals t end l = l
leaf_literals t (u and us) l = tt

head_literals : (h : Head) (ts : Terms) → HeadLiteral h → AllLiterals ts → Literals (term_from h ts)
head_literals (number v) ts l ls = leaf_literals (literal v) ts l
head_literals (Written.truth v) ts l ls = leaf_literals (truth v) ts tt
head_literals (Written.symbol i) ts l ls = leaf_literals (symbol i) ts tt
head_literals (operation o) ts l ls = ls
head_literals (junction j) ts l ls = junction_literals j ts ls
head_literals ifelse ts l ls = branch_literals ts ls
head_literals conditional ts l ls = branch_literals ts ls
head_literals malformed ts l ls = tt

mutual
  pub literals : (f : Formula) → FormulaLiterals f → Literals (term f)
  literals (node h fs) l = head_literals h (terms fs) l.0 (literals_all fs l.1)

  literals_all : (fs : Formulas) → FormulasLiterals fs → AllLiterals (terms fs)
  literals_all last l = tt
  literals_all (next f fs) l = (literals f l.0, literals_all fs l.1)
