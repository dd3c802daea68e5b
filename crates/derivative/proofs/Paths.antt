-- The paths of a derivative's nodes fit 8,192 bytes: `root` has 4, and a step at most 17.
use mathlib.Core.Path.{◌≡◌, refl}
use mathlib.Core.Bool.{Bool}
use mathlib.Core.Option.{none, some}
use Prim.Native.Nat.{ℕ, ◌+◌, ◌*◌, ◌≤◌, ◌<◌}
use native.Mathlib.Omega.{arith}
use lib.ListN.{length}
use Rattle.formula.specs.Operator.{Junction, And, Or, Number}
use Rattle.formula.specs.Formula.{Head, number, operation, junction, ifelse, conditional, malformed, Formula, Formulas, last, next, count, size, sizes, depth, depths}
use Rattle.formula.specs.Formula as Written
use Rattle.formula.specs.Path.{root, text}
use Rattle.formula.specs.Term.{Term, Terms, literal, truth, symbol, end, ◌and◌, chain, junction_term, branch_term, term_from, term, terms, term_count}
use Rattle.machine.specs.Check.{Context, kind, fault}
use Rattle.machine.proofs.Size.{longest_path, longest_paths}
use Rattle.derivative.specs.Differentiate.{derivative}
use Rattle.derivative.proofs.Sound.{chained, chains, all_chains}
use Rattle.derivative.proofs.Compiles.{count_terms, derivative_compiles}
use Rattle.machine.proofs.Size.{leaf_path}

-- ---- a path has fewer steps than levels and arguments of And and Or together

chain_path : (j : Junction) (t : Term) (us : Terms) → longest_path (chain j t us) < term_count us + longest_paths (t and us)
chain_path j t end = omega arith
chain_path And t (u and us) = omega (arith, chain_path And u us)
chain_path Or t (u and us) = omega (arith, chain_path Or u us)

junction_path : (j : Junction) (ts : Terms) → longest_path (junction_term j ts) ≤ term_count ts + longest_paths ts
junction_path j end = omega arith
junction_path j (t and end) = omega arith
junction_path j (t and u and us) = omega (arith, chain_path j t (u and us))

branch_path : (ts : Terms) → longest_path (branch_term ts) ≤ longest_paths ts
branch_path end = omega arith
branch_path (a and end) = omega arith
branch_path (a and b and end) = omega arith
branch_path (a and b and c and end) = omega arith
branch_path (a and b and c and d and ds) = omega arith

head_path : (h : Head) (ts : Formulas) → longest_paths (terms ts) ≤ depths ts + all_chains ts
    → longest_path (term_from h (terms ts)) ≤ depths ts + (chained h (count ts) + all_chains ts)
head_path (number b) ts i = omega (arith, leaf_path (literal b) (terms ts) refl)
head_path (Written.truth b) ts i = omega (arith, leaf_path (truth b) (terms ts) refl)
head_path (Written.symbol b) ts i = omega (arith, leaf_path (symbol b) (terms ts) refl)
head_path (operation o) ts i = omega arith
head_path (junction j) ts i = omega (arith, junction_path j (terms ts), count_terms ts)
head_path ifelse ts i = omega (arith, branch_path (terms ts))
head_path conditional ts i = omega (arith, branch_path (terms ts))
head_path malformed ts i = omega arith

mutual
  pub path_depth : (f : Formula) → longest_path (term f) < depth f + chains f
  path_depth (Written.node h ts) = omega (arith, head_path h ts (paths_depth ts))

  paths_depth : (ts : Formulas) → longest_paths (terms ts) ≤ depths ts + all_chains ts
  paths_depth last = omega arith
  paths_depth (next t ts) = omega (arith, path_depth t, paths_depth ts)

-- ---- And and Or have fewer arguments than the formula has nodes

chained_count : (h : Head) (n : ℕ) → chained h n ≤ n
chained_count (number b) n = omega arith
chained_count (Written.truth b) n = omega arith
chained_count (Written.symbol b) n = omega arith
chained_count (operation o) n = omega arith
chained_count (junction j) n = omega arith
chained_count ifelse n = omega arith
chained_count conditional n = omega arith
chained_count malformed n = omega arith

mutual
  pub chains_size : (f : Formula) → chains f < size f
  chains_size (Written.node h ts) = omega (arith, all_chains_size ts, chained_count h (count ts))

  all_chains_size : (ts : Formulas) → count ts + all_chains ts ≤ sizes ts
  all_chains_size last = omega arith
  all_chains_size (next t ts) = omega (arith, chains_size t, all_chains_size ts)

-- And and Or stand only in copied parts, so those of one path are on one path of the formula
pub derivative_paths : (C : Context) (s : ℕ) (by_state : Bool) (f d : Formula)
    → fault C (term f) root ≡ none → kind (term f) ≡ Number → size f ≤ 256 → derivative s by_state f ≡ some d → depth d ≤ 128
    → length (text root) + 17 * longest_path (term d) ≤ 8192
derivative_paths C s by_state f d ok k small e deep =
    omega (arith, path_depth d, chains_size f, (derivative_compiles C s by_state f d ok k e).2)
