-- The rules that a plain formula meets, and that its derivative is there.
use mathlib.Core.Path.{◌≡◌, refl, sym, ◌∙◌}
use mathlib.Core.Bool.{Bool, true, false, or-false}
use mathlib.Core.Option.{some}
use Prim.Native.Nat.{ℕ, suc}
use native.Mathlib.Omega.{arith}
use lib.Dec.{eqb}
use borrow.Author.Tests.{eqb-true}
use Rattle.arithmetic.specs.Value.{whole}
use Rattle.arithmetic.specs.Constant.{literal}
use Rattle.formula.specs.Operator.{Operation, unary, binary, compare, call, Positive, Negative, Not, Add, Subtract, Multiply, Divide, Power, Modulo}
use Rattle.formula.specs.Formula.{Head, number, truth, symbol, operation, junction, ifelse, conditional, malformed, Formula, Formulas, node, last, next, count, depends}
use Rattle.formula.proofs.Tests.{and_first, and_second}
use Rattle.derivative.specs.Rules.{add_of, mul_of}
use Rattle.derivative.specs.Differentiate.{formulas, differentiate, binary_node}
use Rattle.derivative.specs.Polynomial.{plain, all_plain, plain_head}
use Rattle.derivative.proofs.Faultless.{never}

abbrev pub zero_literal : Formula
zero_literal = node (number 0) last

abbrev pub one_literal : Formula
one_literal = node (number 0x3ff0000000000000) last

abbrev pub minus_one_literal : Formula
minus_one_literal = node (number 0xbff0000000000000) last

abbrev pub negated : Formula → Formula
negated a = mul_of formulas minus_one_literal a

abbrev pub unary_node : Operation → Formula → Formula
unary_node o a = node (operation o) (next a last)

-- the second is the derivative of the first, by the arms that a plain formula meets
pub data Ruled (s : ℕ) : Formula → Formula → Type 0 where
  without : {f : Formula} → plain f ≡ true → depends s f ≡ false → Ruled s f zero_literal
  itself : {i : ℕ} → eqb i s ≡ true → Ruled s (node (symbol i) last) one_literal
  positive : {a da : Formula} → Ruled s a da → Ruled s (unary_node (unary Positive) a) da
  negative : {a da : Formula} → Ruled s a da → Ruled s (unary_node (unary Negative) a) (negated da)
  sum : {a da b db : Formula} → Ruled s a da → Ruled s b db → Ruled s (binary_node (operation (binary Add)) a b) (add_of formulas da db)
  difference : {a da b db : Formula} → Ruled s a da → Ruled s b db
      → Ruled s (binary_node (operation (binary Subtract)) a b) (add_of formulas da (negated db))
  product : {a da b db : Formula} → Ruled s a da → Ruled s b db
      → Ruled s (binary_node (operation (binary Multiply)) a b) (add_of formulas (mul_of formulas da b) (mul_of formulas a db))

module _ (s : ℕ) (by_state : Bool) where
  pub record Differentiable (f : Formula) : Type 0 where
    pub rate : Formula
    pub differentiated : differentiate s by_state f ≡ some rate
    pub ruled : Ruled s f rate

  abbrev AllDifferentiable : Formulas → Type 0
  AllDifferentiable last = Unit {0}
  AllDifferentiable (next t ts) = Differentiable t × AllDifferentiable ts

  -- exactly one child, exactly two
  only_one : (P : Formulas → Type 0) (ts : Formulas) → eqb (count ts) 1 ≡ true → AllDifferentiable ts
      → ((a : Formula) → Differentiable a → P (next a last)) → P ts
  only_one P last e k r = absurd (omega (arith, eqb-true 0 1 e))
  only_one P (next a last) e k r = r a k.0
  only_one P (next a (next b ts)) e k r = absurd (omega (arith, eqb-true (suc (suc (count ts))) 1 e))

  only_two : (P : Formulas → Type 0) (ts : Formulas) → eqb (count ts) 2 ≡ true → AllDifferentiable ts
      → ((a b : Formula) → Differentiable a → Differentiable b → P (next a (next b last))) → P ts
  only_two P last e k r = absurd (omega (arith, eqb-true 0 2 e))
  only_two P (next a last) e k r = absurd (omega (arith, eqb-true 1 2 e))
  only_two P (next a (next b last)) e k r = r a b k.0 k.1.0
  only_two P (next a (next b (next c ts))) e k r = absurd (omega (arith, eqb-true (suc (suc (suc (count ts)))) 2 e))

  -- a node that has the symbol is differentiable where its children are
  abbrev Has : Head → Formulas → Type 0
  Has h ts = depends s (node h ts) ≡ true → Differentiable (node h ts)

  positive_has : (a : Formula) → Differentiable a → Has (operation (unary Positive)) (next a last)
  positive_has a r e = record { rate = r.rate; differentiated = rw (e, r.differentiated); ruled = positive r.ruled }

  negative_has : (a : Formula) → Differentiable a → Has (operation (unary Negative)) (next a last)
  negative_has a r e = record { rate = negated r.rate; differentiated = rw (e, r.differentiated); ruled = negative r.ruled }

  add_has : (a b : Formula) → Differentiable a → Differentiable b → Has (operation (binary Add)) (next a (next b last))
  add_has a b r t e =
      record { rate = add_of formulas r.rate t.rate; differentiated = rw (e, r.differentiated, t.differentiated); ruled = sum r.ruled t.ruled }

  subtract_has : (a b : Formula) → Differentiable a → Differentiable b → Has (operation (binary Subtract)) (next a (next b last))
  subtract_has a b r t e =
      record {
        rate = add_of formulas r.rate (negated t.rate);
        differentiated = rw (e, r.differentiated, t.differentiated);
        ruled = difference r.ruled t.ruled;
      }

  multiply_has : (a b : Formula) → Differentiable a → Differentiable b → Has (operation (binary Multiply)) (next a (next b last))
  multiply_has a b r t e =
      record {
        rate = add_of formulas (mul_of formulas r.rate b) (mul_of formulas a t.rate);
        differentiated = rw (e, r.differentiated, t.differentiated);
        ruled = product r.ruled t.ruled;
      }

  head_has : (h : Head) (ts : Formulas) → plain_head h (count ts) ≡ true → AllDifferentiable ts → Has h ts
  head_has (number b) last p k e = never e
  head_has (number b) (next t ts) p k e = absurd (omega (arith, eqb-true (suc (count ts)) 0 (and_second (whole (literal b)) (eqb (suc (count ts)) 0) p)))
  head_has (truth b) ts p k e = never p
  head_has (symbol i) last p k e = record { rate = one_literal; differentiated = rw e; ruled = itself (sym (or-false (eqb i s)) ∙ e) }
  head_has (symbol i) (next t ts) p k e = absurd (omega (arith, eqb-true (suc (count ts)) 0 p))
  head_has (operation (unary Positive)) ts p k e = only_one (Has (operation (unary Positive))) ts p k positive_has e
  head_has (operation (unary Negative)) ts p k e = only_one (Has (operation (unary Negative))) ts p k negative_has e
  head_has (operation (unary Not)) ts p k e = never p
  head_has (operation (binary Add)) ts p k e = only_two (Has (operation (binary Add))) ts p k add_has e
  head_has (operation (binary Subtract)) ts p k e = only_two (Has (operation (binary Subtract))) ts p k subtract_has e
  head_has (operation (binary Multiply)) ts p k e = only_two (Has (operation (binary Multiply))) ts p k multiply_has e
  head_has (operation (binary Divide)) ts p k e = never p
  head_has (operation (binary Power)) ts p k e = never p
  head_has (operation (binary Modulo)) ts p k e = never p
  head_has (operation (compare o)) ts p k e = never p
  head_has (operation (call f)) ts p k e = never p
  head_has (junction j) ts p k e = never p
  head_has ifelse ts p k e = never p
  head_has conditional ts p k e = never p
  head_has malformed ts p k e = never p

  node_differentiable : (t : Bool) (h : Head) (ts : Formulas) → depends s (node h ts) ≡ t → plain (node h ts) ≡ true → AllDifferentiable ts
      → Differentiable (node h ts)
  node_differentiable true h ts e p k = head_has h ts (and_first (plain_head h (count ts)) (all_plain ts) p) k e
  node_differentiable false h ts e p k = record { rate = zero_literal; differentiated = rw e; ruled = without p e }

  mutual
    -- a plain formula has a derivative
    pub differentiable : (f : Formula) → plain f ≡ true → Differentiable f
    differentiable (node h ts) p =
        node_differentiable (depends s (node h ts)) h ts refl p (all_differentiable ts (and_second (plain_head h (count ts)) (all_plain ts) p))

    all_differentiable : (ts : Formulas) → all_plain ts ≡ true → AllDifferentiable ts
    all_differentiable last p = tt
    all_differentiable (next t ts) p =
        (differentiable t (and_first (plain t) (all_plain ts) p), all_differentiable ts (and_second (plain t) (all_plain ts) p))
