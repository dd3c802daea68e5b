-- The exact value of a plain formula: every plain formula has one and no other has, it is moved only by its own symbols, and simplified sums and products keep it.
use mathlib.Core.Logic.{◌↔◌}
use mathlib.Core.Path.{◌≡◌, refl, sym, ap, ◌∙◌}
use mathlib.Core.Bool.{Bool, true, false, cond, ◌&&◌, ◌||◌, and-false}
use mathlib.Core.List.{List, [], ◌∷◌}
use mathlib.Core.Option.{Option, none, some}
use Prim.Native.Nat.{ℕ, suc}
use lib.ListN.{length}
use lib.Dec.{eqb, eqb-suc-suc, eqb-suc-zero}
use borrow.Author.Tests.{eqb-true}
use lib.IntN.{ℤ, pos, negsuc, ◌+ℤ◌, ◌*ℤ◌, +ℤ_idl, +ℤ_idr, zero-*ℤ, *ℤ-zero}
use lib.Ieee.{of_bits}
use Rattle.arithmetic.specs.Value.{whole, integer_of}
use Rattle.arithmetic.specs.Constant.{literal}
use Rattle.arithmetic.proofs.Integers.{mul_one, one_mul}
use Rattle.formula.specs.Operator.{unary, binary, compare, call, Positive, Negative, Not, Add, Subtract, Multiply, Divide, Power, Modulo}
use Rattle.formula.specs.Formula.{Head, number, truth, symbol, operation, junction, ifelse, conditional, malformed, Formula, Formulas, node, last, next, count, is_symbol, depends, any_depends}
use Rattle.formula.proofs.Tests.{and_one, or_none}
use Rattle.derivative.specs.Rules.{zero_bits, one_bits, add_of, mul_of}
use Rattle.derivative.specs.Differentiate.{formulas, and_then, holds, literal_bits}
use Rattle.derivative.specs.Polynomial.{Setting, plain, all_plain, plain_head, of_none, of_one, of_two, exact_head, exact, all_exact, shifted}
use Rattle.derivative.proofs.Faultless.{never, none_some}
use Rattle.derivative.proofs.Simplified.{add_zero_left, add_zero_right, add_kept, mul_zero, mul_one_left, mul_one_right, mul_kept}

-- ---- the plain formulas are those that have a value

abbrev is_some : {A : Type 0} → Option A → Bool
is_some none = false
is_some (some a) = true

leaf_some : (z : Option ℤ) (xs : List ℤ) → is_some (of_none z xs) ≡ (is_some z && eqb (length xs) 0)
leaf_some z [] = sym (and_one (is_some z))
leaf_some z (a ∷ as') = rw (eqb-suc-zero (length as')) (sym (and-false (is_some z)))

one_some : (f : ℤ → ℤ) (xs : List ℤ) → is_some (of_one f xs) ≡ eqb (length xs) 1
one_some f [] = refl
one_some f (a ∷ []) = refl
one_some f (a ∷ b ∷ bs) = sym (eqb-suc-suc (suc (length bs)) 0 ∙ eqb-suc-zero (length bs))

two_some : (f : ℤ → ℤ → ℤ) (xs : List ℤ) → is_some (of_two f xs) ≡ eqb (length xs) 2
two_some f [] = refl
two_some f (a ∷ []) = refl
two_some f (a ∷ b ∷ []) = refl
two_some f (a ∷ b ∷ c ∷ cs) = sym (eqb-suc-suc (suc (suc (length cs))) 1 ∙ eqb-suc-suc (suc (length cs)) 0 ∙ eqb-suc-zero (length cs))

whole_some : (b : ℕ) → is_some (integer_of (literal b)) ≡ whole (literal b)
unfolding integer_of
whole_some b = go (whole (literal b)) _
  where
    go : (t : Bool) (z : ℤ) → is_some (cond t (some z) none) ≡ t
    go true z = refl
    go false z = refl

head_some : (σ : Setting) (h : Head) (xs : List ℤ) → is_some (exact_head σ h xs) ≡ plain_head h (length xs)
head_some σ (number b) xs = leaf_some (integer_of (literal b)) xs ∙ ap (λ (t : Bool). t && eqb (length xs) 0) (whole_some b)
head_some σ (truth b) xs = refl
head_some σ (symbol i) xs = leaf_some (some (σ i)) xs
head_some σ (operation (unary Positive)) xs = one_some (λ a. a) xs
head_some σ (operation (unary Negative)) xs = one_some _ xs
head_some σ (operation (unary Not)) xs = refl
head_some σ (operation (binary Add)) xs = two_some _ xs
head_some σ (operation (binary Subtract)) xs = two_some _ xs
head_some σ (operation (binary Multiply)) xs = two_some _ xs
head_some σ (operation (binary Divide)) xs = refl
head_some σ (operation (binary Power)) xs = refl
head_some σ (operation (binary Modulo)) xs = refl
head_some σ (operation (compare o)) xs = refl
head_some σ (operation (call f)) xs = refl
head_some σ (junction j) xs = refl
head_some σ ifelse xs = refl
head_some σ conditional xs = refl
head_some σ malformed xs = refl

module _ (σ : Setting) where
  -- of as many values as there are children
  as_many : (ts : Formulas) (xs : List ℤ) → all_exact σ ts ≡ some xs → length xs ≡ count ts
  as_many last xs e = let p : xs ≡ [] = cc in rw p
  as_many (next t ts) xs e = go (exact σ t) (all_exact σ ts) (λ ys p. as_many ts ys p) e
    where
      go : (o : Option ℤ) (os : Option (List ℤ)) → ((ys : List ℤ) → os ≡ some ys → length ys ≡ count ts)
          → and_then o (λ x. and_then os (λ ys. some (x ∷ ys))) ≡ some xs → length xs ≡ suc (count ts)
      go none os p q = none_some q
      go (some x) none p q = none_some q
      go (some x) (some ys) p q = let r : xs ≡ x ∷ ys = cc in rw r (ap suc (p ys refl))

  node_some : (h : Head) (ts : Formulas) (os : Option (List ℤ)) → all_exact σ ts ≡ os → is_some os ≡ all_plain ts
      → is_some (and_then os (λ xs. exact_head σ h xs)) ≡ (plain_head h (count ts) && all_plain ts)
  node_some h ts none e p = rw (← p) (sym (and-false (plain_head h (count ts))))
  node_some h ts (some xs) e p = rw (← p) (head_some σ h xs ∙ ap (plain_head h) (as_many ts xs e) ∙ sym (and_one (plain_head h (count ts))))

  both_some : (o : Option ℤ) (os : Option (List ℤ)) → is_some (and_then o (λ x. and_then os (λ xs. some (x ∷ xs)))) ≡ (is_some o && is_some os)
  both_some none os = refl
  both_some (some x) none = refl
  both_some (some x) (some xs) = refl

  mutual
    value_some : (f : Formula) → is_some (exact σ f) ≡ plain f
    value_some (node h ts) = node_some h ts (all_exact σ ts) refl (values_some ts)

    values_some : (ts : Formulas) → is_some (all_exact σ ts) ≡ all_plain ts
    values_some last = refl
    values_some (next t ts) = both_some (exact σ t) (all_exact σ ts) ∙ rw (value_some t, values_some ts)

  from_some : (o : Option ℤ) → is_some o ≡ true → (z : ℤ) × (o ≡ some z)
  from_some none e = never e
  from_some (some z) e = (z, refl)

  -- "formulas of Add, Subtract, ..": whatever the setting, these have a value and no others
  pub plain_value : (f : Formula) → (plain f ≡ true) ↔ ((z : ℤ) × (exact σ f ≡ some z))
  plain_value f = ((λ p. from_some (exact σ f) (value_some f ∙ p)), (λ p. sym (value_some f) ∙ ap is_some p.1))

-- ---- a formula without the symbol is not moved

module _ (s : ℕ) (h : ℤ) (σ : Setting) where
  symbol_still : (i : ℕ) (t : Bool) → eqb i s ≡ t → t ≡ false → shifted s h σ i ≡ σ i
  symbol_still i true e p = never (sym p)
  symbol_still i false e p = rw e

  head_still : (k : Head) (xs : List ℤ) → is_symbol s k ≡ false → exact_head (shifted s h σ) k xs ≡ exact_head σ k xs
  head_still (number b) xs e = refl
  head_still (truth b) xs e = refl
  head_still (symbol i) xs e = rw (symbol_still i (eqb i s) refl e)
  head_still (operation o) xs e = refl
  head_still (junction j) xs e = refl
  head_still ifelse xs e = refl
  head_still conditional xs e = refl
  head_still malformed xs e = refl

  node_still : (k : Head) (os : Option (List ℤ)) → is_symbol s k ≡ false
      → and_then os (λ xs. exact_head (shifted s h σ) k xs) ≡ and_then os (λ xs. exact_head σ k xs)
  node_still k none e = refl
  node_still k (some xs) e = head_still k xs e

  mutual
    pub value_still : (f : Formula) → depends s f ≡ false → exact (shifted s h σ) f ≡ exact σ f
    value_still (node k ts) e =
        let g = or_none (is_symbol s k) (any_depends s ts) e in
        rw (values_still ts g.1) (node_still k (all_exact σ ts) g.0)

    values_still : (ts : Formulas) → any_depends s ts ≡ false → all_exact (shifted s h σ) ts ≡ all_exact σ ts
    values_still last e = refl
    values_still (next t ts) e =
        let g = or_none (depends s t) (any_depends s ts) e in
        rw (value_still t g.0, values_still ts g.1)

-- ---- the rules' sums and products

-- "a literal zero (of either sign)" is 0, the literal one is 1, and the rules' own -1 is -1
pub zero_value : integer_of (literal 0) ≡ some (pos 0)
unfolding of_bits whole integer_of
zero_value = refl

minus_zero_value : integer_of (literal 0x8000000000000000) ≡ some (pos 0)
unfolding of_bits whole integer_of
minus_zero_value = refl

pub one_value : integer_of (literal 0x3ff0000000000000) ≡ some (pos 1)
unfolding of_bits whole integer_of
one_value = refl

pub minus_one_value : integer_of (literal 0xbff0000000000000) ≡ some (negsuc 0)
unfolding of_bits whole integer_of
minus_one_value = refl

zero_bits_value : (b : ℕ) → zero_bits b ≡ true → integer_of (literal b) ≡ some (pos 0)
zero_bits_value b e = go (eqb b 0) refl e
  where
    go : (t : Bool) → eqb b 0 ≡ t → (t || eqb b 0x8000000000000000) ≡ true → integer_of (literal b) ≡ some (pos 0)
    go true p q = rw (eqb-true b 0 p) zero_value
    go false p q = rw (eqb-true b 0x8000000000000000 q) minus_zero_value

one_bits_value : (b : ℕ) → one_bits b ≡ true → integer_of (literal b) ≡ some (pos 1)
one_bits_value b e = rw (eqb-true b 0x3ff0000000000000 e) one_value

module _ (σ : Setting) where
  -- a literal has no children where it has a value
  leaf_value : (b : ℕ) (ts : Formulas) (z : ℤ) → exact σ (node (number b) ts) ≡ some z → integer_of (literal b) ≡ some z
  leaf_value b last z e = e
  leaf_value b (next t ts) z e = go (exact σ t) (all_exact σ ts) e
    where
      go : (o : Option ℤ) (os : Option (List ℤ))
          → and_then (and_then o (λ x. and_then os (λ xs. some (x ∷ xs)))) (λ xs. of_none (integer_of (literal b)) xs) ≡ some z → integer_of (literal b) ≡ some z
      go none os q = none_some q
      go (some x) none q = none_some q
      go (some x) (some xs) q = none_some q

  -- a literal that passes a test of its bits has the value that the test says
  literal_value : (p : ℕ → Bool) (n : ℤ) → ((b : ℕ) → p b ≡ true → integer_of (literal b) ≡ some n)
      → (a : Formula) (z : ℤ) → exact σ a ≡ some z → holds p (literal_bits a) ≡ true → z ≡ n
  literal_value p n k (node (number b) ts) z e q = let l = leaf_value b ts z e in let m = k b q in cc
  literal_value p n k (node (truth b) ts) z e q = never q
  literal_value p n k (node (symbol i) ts) z e q = never q
  literal_value p n k (node (operation o) ts) z e q = never q
  literal_value p n k (node (junction j) ts) z e q = never q
  literal_value p n k (node ifelse ts) z e q = never q
  literal_value p n k (node conditional ts) z e q = never q
  literal_value p n k (node malformed ts) z e q = never q

  is_zero_value : (a : Formula) (z : ℤ) → exact σ a ≡ some z → formulas.is_zero a ≡ true → z ≡ pos 0
  is_zero_value a z e q = literal_value zero_bits (pos 0) zero_bits_value a z e q

  is_one_value : (a : Formula) (z : ℤ) → exact σ a ≡ some z → formulas.is_one a ≡ true → z ≡ pos 1
  is_one_value a z e q = literal_value one_bits (pos 1) one_bits_value a z e q

  module _ (a b : Formula) (x y : ℤ) (p : exact σ a ≡ some x) (q : exact σ b ≡ some y) where
    pub sum_value : exact σ (add_of formulas a b) ≡ some (x +ℤ y)
    sum_value = go (formulas.is_zero a) refl (formulas.is_zero b) refl
      where
        go : (t : Bool) → formulas.is_zero a ≡ t → (u : Bool) → formulas.is_zero b ≡ u → exact σ (add_of formulas a b) ≡ some (x +ℤ y)
        go true e u f = rw (add_zero_left a b e, is_zero_value a x p e, +ℤ_idl y) q
        go false e true f = rw (add_zero_right a b e f, is_zero_value b y q f, +ℤ_idr x) p
        go false e false f = rw (add_kept a b e f, p, q)

    pub product_value : exact σ (mul_of formulas a b) ≡ some (x *ℤ y)
    product_value = go (formulas.is_zero a) refl (formulas.is_zero b) refl (formulas.is_one a) refl (formulas.is_one b) refl
      where
        go : (t : Bool) → formulas.is_zero a ≡ t → (u : Bool) → formulas.is_zero b ≡ u → (v : Bool) → formulas.is_one a ≡ v
            → (w : Bool) → formulas.is_one b ≡ w → exact σ (mul_of formulas a b) ≡ some (x *ℤ y)
        go true e u f v g w k = rw (mul_zero a b (rw e), is_zero_value a x p e, zero-*ℤ y) zero_value
        go false e true f v g w k = rw (mul_zero a b (rw (e, f)), is_zero_value b y q f, *ℤ-zero x) zero_value
        go false e false f true g w k = rw (mul_one_left a b (rw (e, f)) g, is_one_value a x p g, one_mul y) q
        go false e false f false g true k = rw (mul_one_right a b (rw (e, f)) g k, is_one_value b y q k, mul_one x) p
        go false e false f false g false k = rw (mul_kept a b (rw (e, f)) g k, p, q)
