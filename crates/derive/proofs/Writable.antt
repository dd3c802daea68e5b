-- A derivative's nodes can be written in 16 bytes each: its literals are bits of an f64, and no node has too many children.
use mathlib.Core.Path.{◌≡◌, refl, ap, ◌∙◌, subst}
use mathlib.Core.Bool.{Bool, true, false, cond, ◌&&◌, ◌||◌}
use mathlib.Core.List.{List, [], ◌∷◌}
use mathlib.Core.Option.{Option, none, some}
use Prim.Native.Nat.{ℕ, zero, suc}
use native.Mathlib.Omega.{arith}
use lib.ListN.{get_or}
use lib.Dec.{eqb, ltb}
use lib.Ieee.{binary64, of_bits}
use lib.Ieee.Bits.{to_bits-lt}
use lib.Ieee.Fits.{sub-fits}
use borrow.Author.Tests.{lt-ltb}
use Rattle.formula.specs.Operator.{Operation, unary, binary, compare, call, Positive, Negative, Not, Binary, Add, Subtract, Multiply, Divide, Power, Modulo, Function, Exp, Log, Log10, Sqrt, Sin, Cos, Tan, Tanh, Abs, Floor, Ceil, Min, Max, Hill, InverseGaussianDensity}
use Rattle.formula.specs.Formula.{Head, number, truth, symbol, operation, junction, ifelse, conditional, malformed, Formula, Formulas, node, last, next, of_list, to_list, count, depends}
use Rattle.reader.specs.Writable.{writable, all_writable, writable_head}
use Rattle.formula.proofs.Tests.{and_both, and_first, and_second}
use Rattle.derivative.specs.Rules.{Parts, Rule, Rules, child, whole, diff, make, add, mul, unless_zero, zeroth, end, ◌and◌, instance, instances, zero_bits, one_bits, less_one, power, power_rule, binary_rule, branch_rule, extremum_from, extremum_rule, call_rule, operation_rule, rule_of}
use Rattle.derivative.specs.Differentiate.{formulas, literal_bits, second_literal, and_then, applied, the_rule, differentiate, differentiate_all, with_primal, binary_node, derivative}
use Rattle.derivative.proofs.Compiles.{and_then_some}

-- ---- an instance of a rule

abbrev rules_count : Rules → ℕ
rules_count end = 0
rules_count (r and rs) = suc (rules_count rs)

-- whether its new nodes can be written
abbrev mutual
  fitting : Rule → Bool
  fitting (child i) = true
  fitting whole = true
  fitting (diff i) = true
  fitting (make h rs) = writable_head h (rules_count rs) && all_fitting rs
  fitting (add a b) = fitting a && fitting b
  fitting (mul a b) = fitting a && fitting b
  fitting (unless_zero i r) = fitting r
  fitting zeroth = true

  all_fitting : Rules → Bool
  all_fitting end = true
  all_fitting (r and rs) = fitting r && all_fitting rs

abbrev All : List Formula → Type 0
All [] = Unit {0}
All (t ∷ ts) = (writable t ≡ true) × All ts

all_of : (ts : Formulas) → all_writable ts ≡ true → All (to_list ts)
all_of last w = tt
all_of (next t ts) w = (and_first (writable t) (all_writable ts) w, all_of ts (and_second (writable t) (all_writable ts) w))

of_all : (ts : List Formula) → All ts → all_writable (of_list ts) ≡ true
of_all [] a = refl
of_all (t ∷ ts) a = and_both (writable t) (all_writable (of_list ts)) a.0 (of_all ts a.1)

at : (ts : List Formula) (i : ℕ) → All ts → writable (get_or ts i (node (number 0) last)) ≡ true
at [] i a = refl
at (t ∷ ts) zero a = a.0
at (t ∷ ts) (suc i) a = at ts i a.1

chosen : (b : Bool) (x y : Formula) → writable x ≡ true → writable y ≡ true → writable (cond b x y) ≡ true
chosen true x y p q = p
chosen false x y p q = q

pair : (o : Binary) (a b : Formula) → writable a ≡ true → writable b ≡ true → writable (node (operation (binary o)) (next a (next b last))) ≡ true
pair o a b p q = rw (p, q)

module _ (e : Parts Formula) (own : writable e.own ≡ true) (children : All e.children) (diffs : All e.diffs) where
  counted : (rs : Rules) → count (of_list (instances formulas e rs)) ≡ rules_count rs
  counted end = refl
  counted (r and rs) = ap suc (counted rs)

  mutual
    written : (r : Rule) → fitting r ≡ true → writable (instance formulas e r) ≡ true
    written (child i) h = at e.children i children
    written whole h = own
    written (diff i) h = at e.diffs i diffs
    written (make k rs) h =
        and_both (writable_head k (count (of_list (instances formulas e rs)))) (all_writable (of_list (instances formulas e rs)))
        (ap (writable_head k) (counted rs) ∙ and_first (writable_head k (rules_count rs)) (all_fitting rs) h)
        (of_all (instances formulas e rs) (written_all rs (and_second (writable_head k (rules_count rs)) (all_fitting rs) h)))
    written (add a b) h =
        let x = instance formulas e a in
        let y = instance formulas e b in
        let p = written a (and_first (fitting a) (fitting b) h) in
        let q = written b (and_second (fitting a) (fitting b) h) in
        chosen (formulas.is_zero x) y _ q (chosen (formulas.is_zero y) x _ p (pair Add x y p q))
    written (mul a b) h =
        let x = instance formulas e a in
        let y = instance formulas e b in
        let p = written a (and_first (fitting a) (fitting b) h) in
        let q = written b (and_second (fitting a) (fitting b) h) in
        chosen (formulas.is_zero x || formulas.is_zero y) (node (number 0) last) _ refl
        (chosen (formulas.is_one x) y _ q (chosen (formulas.is_one y) x _ p (pair Multiply x y p q)))
    written (unless_zero i r) h =
        chosen (formulas.is_zero (get_or e.diffs i (node (number 0) last))) (node (number 0) last) (instance formulas e r) refl (written r h)
    written zeroth h = refl

    written_all : (rs : Rules) → all_fitting rs ≡ true → All (instances formulas e rs)
    written_all end h = tt
    written_all (r and rs) h = (written r (and_first (fitting r) (all_fitting rs) h), written_all rs (and_second (fitting r) (all_fitting rs) h))

-- ---- the rules

abbrev Exponent : Option ℕ → Type 0
Exponent none = Unit {0}
Exponent (some n) = ltb n 18446744073709551616 ≡ true

less_one_fits : (n : ℕ) → ltb (less_one n) 18446744073709551616 ≡ true
unfolding less_one
less_one_fits n = lt-ltb _ 18446744073709551616 (to_bits-lt binary64 _ (sub-fits binary64 (of_bits binary64 n) (of_bits binary64 0x3ff0000000000000)))

power_fits : (n : ℕ) → ltb n 18446744073709551616 ≡ true → fitting (power (child 0) n) ≡ true
power_fits n h = go (one_bits n) (zero_bits n)
  where
    go : (a b : Bool) → fitting (cond a (child 0) (cond b zeroth (make (operation (binary Power)) (child 0 and make (number n) end and end)))) ≡ true
    go true b = refl
    go false true = refl
    go false false = rw h

power_rule_fits : (n : Option ℕ) → Exponent n → fitting (power_rule n) ≡ true
power_rule_fits none h = refl
power_rule_fits (some n) h = rw (h, power_fits (less_one n) (less_one_fits n))

binary_fits : (o : Binary) (n : Option ℕ) → Exponent n → fitting (binary_rule o n) ≡ true
binary_fits Add n h = refl
binary_fits Subtract n h = refl
binary_fits Multiply n h = refl
binary_fits Divide n h = refl
binary_fits Power n h = power_rule_fits n h
binary_fits Modulo n h = refl

extremum_fits : (i left : ℕ) → fitting (extremum_from i left) ≡ true
extremum_fits i zero = refl
extremum_fits i (suc left) = rw (extremum_fits (suc i) left)

-- a rule that is chosen
abbrev Fits : Option Rule → Type 0
Fits none = Unit {0}
Fits (some r) = fitting r ≡ true

extrema_fit : (n : ℕ) → Fits (extremum_rule n)
extrema_fit zero = tt
extrema_fit (suc left) = extremum_fits 0 left

call_fits : (by_state : Bool) (n : ℕ) (f : Function) → Fits (call_rule by_state n f)
call_fits b n Min = extrema_fit n
call_fits b n Max = extrema_fit n
call_fits b n Abs = refl
call_fits b n InverseGaussianDensity = refl
call_fits true n Hill = refl
call_fits false n Hill = refl
call_fits b n Exp = refl
call_fits b n Log = refl
call_fits b n Log10 = refl
call_fits b n Sqrt = refl
call_fits b n Sin = refl
call_fits b n Cos = refl
call_fits b n Tan = refl
call_fits b n Tanh = refl
call_fits b n Floor = tt
call_fits b n Ceil = tt

operation_fits : (by_state : Bool) (n : ℕ) (x : Option ℕ) (o : Operation) → Exponent x → Fits (operation_rule by_state n x o)
operation_fits b n x (unary Positive) h = refl
operation_fits b n x (unary Negative) h = refl
operation_fits b n x (unary Not) h = tt
operation_fits b n x (binary o) h = binary_fits o x h
operation_fits b n x (compare o) h = tt
operation_fits b n x (call f) h = call_fits b n f

branch_fits : (moving : Bool) → Fits (branch_rule moving)
branch_fits true = tt
branch_fits false = refl

rule_fits : (by_state moving : Bool) (n : ℕ) (x : Option ℕ) (h : Head) → Exponent x → Fits (rule_of by_state moving n x h)
rule_fits b m n x (symbol i) e = refl
rule_fits b m n x (operation o) e = operation_fits b n x o e
rule_fits b m n x conditional e = branch_fits m
rule_fits b m n x ifelse e = branch_fits m
rule_fits b m n x (number v) e = tt
rule_fits b m n x (truth v) e = tt
rule_fits b m n x (junction j) e = tt
rule_fits b m n x malformed e = tt

-- ---- the derivative

literal_fits : (t : Formula) → writable t ≡ true → Exponent (literal_bits t)
literal_fits (node (number v) ts) w =
    and_second (eqb (count ts) 0) (ltb v 18446744073709551616) (and_first (eqb (count ts) 0 && ltb v 18446744073709551616) (all_writable ts) w)
literal_fits (node (truth v) ts) w = tt
literal_fits (node (symbol i) ts) w = tt
literal_fits (node (operation o) ts) w = tt
literal_fits (node (junction j) ts) w = tt
literal_fits (node ifelse ts) w = tt
literal_fits (node conditional ts) w = tt
literal_fits (node malformed ts) w = tt

second_fits : (ts : Formulas) → all_writable ts ≡ true → Exponent (second_literal ts)
second_fits last w = tt
second_fits (next t last) w = tt
second_fits (next t (next u us)) w =
    literal_fits u (and_first (writable u) (all_writable us) (and_second (writable t) (writable u && all_writable us) w))

apply_fits : (r : Option Rule) (t : Formula) (ts ds : List Formula) (d : Formula) → Fits r → writable t ≡ true → All ts → All ds → applied formulas r t ts ds ≡ some d → writable d ≡ true
apply_fits none t ts ds d h w a b e = absurd (let z : ◌≡◌ {A = ℕ} 0 1 = cc in omega arith)
apply_fits (some r) t ts ds d h w a b e =
    let E : Parts Formula = record { own = t; children = ts; diffs = ds } in
    let q : instance formulas E r ≡ d = cc in
    subst (λ (x : Formula). writable x ≡ true) q (written E w a b r h)

module _ (s : ℕ) (by_state : Bool) where
  node_fits : (has : Bool) (h : Head) (ts : Formulas) (d : Formula) → writable (node h ts) ≡ true
      → ((ds : List Formula) → differentiate_all s by_state ts ≡ some ds → All ds)
      → cond has (and_then (differentiate_all s by_state ts) (λ ds. applied formulas (the_rule s by_state h ts) (node h ts) (to_list ts) ds)) (some (node (number 0) last)) ≡ some d
      → writable d ≡ true
  node_fits true h ts d w ih e =
      let g = and_then_some (differentiate_all s by_state ts) _ d e in
      let a = and_second (writable_head h (count ts)) (all_writable ts) w in
      apply_fits (the_rule s by_state h ts) (node h ts) (to_list ts) g.0 d (rule_fits by_state _ (count ts) (second_literal ts) h (second_fits ts a)) w (all_of ts a) (ih g.0 g.1) g.2
  node_fits false h ts d w ih e = let q : node (number 0) last ≡ d = cc in subst (λ (x : Formula). writable x ≡ true) q refl

  mutual
    differentiate_writable : (f d : Formula) → writable f ≡ true → differentiate s by_state f ≡ some d → writable d ≡ true
    differentiate_writable (node h ts) d w e =
        node_fits (depends s (node h ts)) h ts d w (λ ds e'. differentiate_all_writable ts ds (and_second (writable_head h (count ts)) (all_writable ts) w) e') e

    differentiate_all_writable : (ts : Formulas) (ds : List Formula) → all_writable ts ≡ true → differentiate_all s by_state ts ≡ some ds → All ds
    differentiate_all_writable last ds w e = let q : [] ≡ ds = cc in subst All q tt
    differentiate_all_writable (next t ts) ds w e =
        let g = and_then_some (differentiate s by_state t) _ ds e in
        let f = and_then_some (differentiate_all s by_state ts) _ ds g.2 in
        let q : g.0 ∷ f.0 ≡ ds = cc in
        subst All q (
          differentiate_writable t g.0 (and_first (writable t) (all_writable ts) w) g.1,
          differentiate_all_writable ts f.0 (and_second (writable t) (all_writable ts) w) f.1,
        )

  pub derivative_writable : (f d : Formula) → writable f ≡ true → derivative s by_state f ≡ some d → writable d ≡ true
  derivative_writable f d w e =
      let g = and_then_some (differentiate s by_state f) _ d e in
      let q : with_primal f g.0 ≡ d = cc in
      subst (λ (x : Formula). writable x ≡ true) q (pair Add (binary_node (operation (binary Multiply)) (node (number 0) last) f) g.0 (pair Multiply (node (number 0) last) f refl w) (differentiate_writable f g.0 w g.1))
