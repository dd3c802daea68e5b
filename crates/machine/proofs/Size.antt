-- How long the paths of a term are: at most 17 bytes for each step where no operation has more than 65,536 arguments.
use mathlib.Core.Path.{◌≡◌, refl, subst}
use mathlib.Core.Bool.{Bool, true, false}
use Prim.Native.Nat.{ℕ, zero, suc, ◌+◌, ◌*◌, ◌/◌, ◌^◌, ◌≤◌, ◌<◌}
use native.Mathlib.Nat.{pow-suc}
use native.Mathlib.Omega.{arith}
use lib.ListN.{length, length-append}
use lib.Dec.{ltb}
use borrow.Author.Tests.{ltb-false}
use Rattle.formula.specs.Text.{decimal_in}
use Rattle.formula.specs.Path.{Path, Step, ◌▸◌, argument, condition, else_arm, step_text, text, then_arm}
use Rattle.formula.specs.Operator.{Junction, And, Or}
use Rattle.formula.specs.Formula.{Formula, Formulas, Head, conditional, count, ifelse, junction, last, malformed, next, number, operation, size, sizes}
use Rattle.formula.specs.Formula as Written
pub use Rattle.machine.specs.Paths.{longest_path, longest_paths}
use Rattle.formula.specs.Term.{Term, Terms, ◌and◌, apply, branch, branch_term, chain, end, junction_term, leaf_term, literal, miscounted, symbol, term, term_count, term_from, terms, truth}

-- no operation has more than 65,536 arguments
abbrev mutual
  pub Narrow : Term → Type 0
  Narrow (literal b) = Unit {0}
  Narrow (truth b) = Unit {0}
  Narrow (symbol i) = Unit {0}
  Narrow (apply o ts) = (term_count ts ≤ 65536) × Narrows ts
  Narrow (branch c y e) = Narrow c × Narrow y × Narrow e
  Narrow miscounted = Unit {0}

  pub Narrows : Terms → Type 0
  Narrows end = Unit {0}
  Narrows (t and ts) = Narrow t × Narrows ts

-- ---- a step's text

decimal_short : (k turns : ℕ) (b : Bool) (n : ℕ) → ltb n 10 ≡ b → n < 10 ^ suc k → length (decimal_in turns b n) ≤ suc k
decimal_short k zero b n e h = omega arith
decimal_short k (suc t) true n e h = omega arith
decimal_short zero (suc t) false n e h = absurd (omega (arith, ltb-false n 10 e))
decimal_short (suc k) (suc t) false n e h =
    let h' : n < 10 ^ suc k * 10 = subst (λ (m : ℕ). n < m) (pow-suc 10 (suc k)) h in
    rw length-append (omega (arith, decimal_short k t (ltb (n / 10) 10) (n / 10) refl (omega arith)))

pub step_short : (s : Step) → (i : ℕ) → s ≡ argument i → i < 65536 → length (step_text s) ≤ 17
step_short s i e h =
    rw (e, length-append, length-append) (omega (arith, decimal_short 4 (suc i) (ltb i 10) i refl (omega arith)))

pub argument_short : (p : Path) (i : ℕ) → i < 65536 → length (text (p ▸ argument i)) ≤ length (text p) + 17
argument_short p i h = rw length-append (omega (arith, step_short (argument i) i refl h))

pub condition_short : (p : Path) → length (text (p ▸ condition)) ≤ length (text p) + 17
condition_short p = rw length-append (omega arith)

pub then_short : (p : Path) → length (text (p ▸ then_arm)) ≤ length (text p) + 17
then_short p = rw length-append (omega arith)

pub else_short : (p : Path) → length (text (p ▸ else_arm)) ≤ length (text p) + 17
else_short p = rw length-append (omega arith)

-- ---- a formula's terms

abbrev weight : Terms → ℕ
weight end = 0
weight (t and ts) = suc (longest_path t) + weight ts

paths_weight : (ts : Terms) → longest_paths ts ≤ weight ts
paths_weight end = omega arith
paths_weight (t and ts) = omega (arith, paths_weight ts)

chain_path : (j : Junction) (t : Term) (us : Terms) → longest_path (chain j t us) ≤ longest_path t + weight us
chain_path j t end = omega arith
chain_path And t (u and us) = omega (arith, chain_path And u us)
chain_path Or t (u and us) = omega (arith, chain_path Or u us)

junction_path : (j : Junction) (ts : Terms) → longest_path (junction_term j ts) ≤ weight ts
junction_path j end = omega arith
junction_path j (t and end) = omega arith
junction_path j (t and u and us) = omega (arith, chain_path j t (u and us))

branch_path : (ts : Terms) → longest_path (branch_term ts) ≤ weight ts
branch_path end = omega arith
branch_path (a and end) = omega arith
branch_path (a and b and end) = omega arith
branch_path (a and b and c and end) = omega arith
branch_path (a and b and c and d and ds) = omega arith

pub leaf_path : (t : Term) (ts : Terms) → longest_path t ≡ 0 → longest_path (leaf_term t ts) ≡ 0
leaf_path t end e = e
leaf_path t (u and us) e = refl

head_path : (h : Head) (ts : Terms) → longest_path (term_from h ts) ≤ weight ts
head_path (number b) ts = omega (arith, leaf_path (literal b) ts refl)
head_path (Written.truth b) ts = omega (arith, leaf_path (truth b) ts refl)
head_path (Written.symbol i) ts = omega (arith, leaf_path (symbol i) ts refl)
head_path (operation o) ts = paths_weight ts
head_path (junction j) ts = junction_path j ts
head_path ifelse ts = branch_path ts
head_path conditional ts = branch_path ts
head_path malformed ts = omega arith

mutual
  -- a path has fewer steps than the formula has nodes
  pub path_size : (f : Formula) → longest_path (term f) < size f
  path_size (Written.node h ts) = omega (arith, head_path h (terms ts), weight_size ts)

  weight_size : (fs : Formulas) → weight (terms fs) ≤ sizes fs
  weight_size last = omega arith
  weight_size (next t ts) = omega (arith, path_size t, weight_size ts)

-- ---- few nodes, few arguments

chain_narrow : (j : Junction) (t : Term) (us : Terms) → Narrow t → Narrows us → Narrow (chain j t us)
chain_narrow j t end n ns = n
chain_narrow And t (u and us) n ns = (n, chain_narrow And u us ns.0 ns.1, tt)
chain_narrow Or t (u and us) n ns = (n, tt, chain_narrow Or u us ns.0 ns.1)

junction_narrow : (j : Junction) (ts : Terms) → Narrows ts → Narrow (junction_term j ts)
junction_narrow j end ns = tt
junction_narrow j (t and end) ns = tt
junction_narrow j (t and u and us) ns = chain_narrow j t (u and us) ns.0 ns.1

branch_narrow : (ts : Terms) → Narrows ts → Narrow (branch_term ts)
branch_narrow end ns = tt
branch_narrow (a and end) ns = tt
branch_narrow (a and b and end) ns = tt
branch_narrow (a and b and c and end) ns = (ns.0, ns.1.0, ns.1.1.0)
branch_narrow (a and b and c and d and ds) ns = tt

leaf_narrow : (t : Term) (ts : Terms) → Narrow t → Narrow (leaf_term t ts)
leaf_narrow t end n = n
leaf_narrow t (u and us) n = tt

head_narrow : (h : Head) (ts : Terms) → term_count ts ≤ 65536 → Narrows ts → Narrow (term_from h ts)
head_narrow (number b) ts l ns = leaf_narrow (literal b) ts tt
head_narrow (Written.truth b) ts l ns = leaf_narrow (truth b) ts tt
head_narrow (Written.symbol i) ts l ns = leaf_narrow (symbol i) ts tt
head_narrow (operation o) ts l ns = (l, ns)
head_narrow (junction j) ts l ns = junction_narrow j ts ns
head_narrow ifelse ts l ns = branch_narrow ts ns
head_narrow conditional ts l ns = branch_narrow ts ns
head_narrow malformed ts l ns = tt

count_size : (fs : Formulas) → term_count (terms fs) ≤ sizes fs
count_size last = omega arith
count_size (next (Written.node h us) ts) = omega (arith, count_size ts)

mutual
  pub narrow : (f : Formula) → size f ≤ 65536 → Narrow (term f)
  narrow (Written.node h ts) l = head_narrow h (terms ts) (omega (arith, count_size ts)) (narrows ts (omega arith))

  narrows : (fs : Formulas) → sizes fs ≤ 65536 → Narrows (terms fs)
  narrows last l = tt
  narrows (next t ts) l = (narrow t (omega arith), narrows ts (omega arith))
