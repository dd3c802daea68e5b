-- The value of a plain formula and of its derivative at one setting, and what is left of the first with h added to the symbol.
use mathlib.Core.Path.{◌≡◌, refl, sym, ap, ◌∙◌}
use mathlib.Core.Bool.{true, false}
use mathlib.Core.Option.{some}
use Prim.Native.Nat.{ℕ}
use lib.Dec.{eqb}
use lib.IntN.{ℤ, pos, negsuc, neg_ℤ, ◌+ℤ◌, ◌*ℤ◌, +ℤ_idl, zero-*ℤ}
use Rattle.arithmetic.proofs.Integers.{mul_one, minus_one_mul}
use Rattle.formula.specs.Operator.{unary, binary, Positive, Negative, Add, Subtract, Multiply}
use Rattle.formula.specs.Formula.{symbol, operation, Formula, node, last, depends}
use Rattle.derivative.specs.Rules.{add_of, mul_of}
use Rattle.derivative.specs.Differentiate.{formulas, binary_node, with_primal}
use Rattle.derivative.specs.Polynomial.{Setting, plain, exact, shifted, Rate}
use Rattle.derivative.proofs.Exact.{plain_value, value_still, zero_value, one_value, minus_one_value, sum_value, product_value}
use Rattle.derivative.proofs.Moves.{Moves, still, opposites, scaled, sums, products, left_over}
use Rattle.derivative.proofs.Ruled.{Ruled, without, itself, positive, negative, sum, difference, product, zero_literal, one_literal, minus_one_literal, negated, unary_node}

-- f has the value x, and x' with h added to the symbol; g has the value d; x' = x + h·y and y = d + h·q
pub record Slope (s : ℕ) (σ : Setting) (h : ℤ) (f g : Formula) : Type 0 where
  pub x : ℤ
  pub x' : ℤ
  pub y : ℤ
  pub d : ℤ
  pub q : ℤ
  pub value : exact σ f ≡ some x
  pub moved : exact (shifted s h σ) f ≡ some x'
  pub slope : exact σ g ≡ some d
  pub moves : Moves h x y x'
  pub rest : Moves h d q y

module _ (s : ℕ) (σ : Setting) (h : ℤ) where
  -- the same numbers for others
  same : {f g f' g' : Formula} (A : Slope s σ h f g) → exact σ f' ≡ some A.x → exact (shifted s h σ) f' ≡ some A.x' → exact σ g' ≡ some A.d
      → Slope s σ h f' g'
  same A v m l =
      record {
        x = A.x;
        x' = A.x';
        y = A.y;
        d = A.d;
        q = A.q;
        value = v;
        moved = m;
        slope = l;
        moves = A.moves;
        rest = A.rest;
      }

  without_slope : (f : Formula) → plain f ≡ true → depends s f ≡ false → Slope s σ h f zero_literal
  without_slope f p e =
      let v = (plain_value σ f).0 p in
      record {
        x = v.0;
        x' = v.0;
        y = pos 0;
        d = pos 0;
        q = pos 0;
        value = v.1;
        moved = value_still s h σ f e ∙ v.1;
        slope = zero_value;
        moves = still h v.0;
        rest = still h (pos 0);
      }

  itself_slope : (i : ℕ) → eqb i s ≡ true → Slope s σ h (node (symbol i) last) one_literal
  itself_slope i e =
      record {
        x = σ i;
        x' = σ i +ℤ h;
        y = pos 1;
        d = pos 1;
        q = pos 0;
        value = refl;
        moved = rw e;
        slope = one_value;
        moves = ap (λ (k : ℤ). σ i +ℤ k) (sym (mul_one h));
        rest = still h (pos 1);
      }

  negated_value : (g : Formula) (d : ℤ) → exact σ g ≡ some d → exact σ (negated g) ≡ some (neg_ℤ d)
  negated_value g d e = product_value σ minus_one_literal g (negsuc 0) d minus_one_value e ∙ ap some (minus_one_mul d)

  module _ {a da : Formula} (A : Slope s σ h a da) where
    positive_slope : Slope s σ h (unary_node (unary Positive) a) da
    positive_slope = same A (rw A.value) (rw A.moved) A.slope

    abbrev negative_slope : Slope s σ h (unary_node (unary Negative) a) (negated da)
    negative_slope =
        record {
          x = neg_ℤ A.x;
          x' = neg_ℤ A.x';
          y = neg_ℤ A.y;
          d = neg_ℤ A.d;
          q = neg_ℤ A.q;
          value = rw A.value;
          moved = rw A.moved;
          slope = negated_value da A.d A.slope;
          moves = opposites h A.x A.y A.x' A.moves;
          rest = opposites h A.d A.q A.y A.rest;
        }

    module _ {b db : Formula} (B : Slope s σ h b db) where
      abbrev sum_slope : Slope s σ h (binary_node (operation (binary Add)) a b) (add_of formulas da db)
      sum_slope =
          record {
            x = A.x +ℤ B.x;
            x' = A.x' +ℤ B.x';
            y = A.y +ℤ B.y;
            d = A.d +ℤ B.d;
            q = A.q +ℤ B.q;
            value = rw (A.value, B.value);
            moved = rw (A.moved, B.moved);
            slope = sum_value σ da db A.d B.d A.slope B.slope;
            moves = sums h A.x A.y A.x' B.x B.y B.x' A.moves B.moves;
            rest = sums h A.d A.q A.y B.d B.q B.y A.rest B.rest;
          }

      -- a·b moves with ya·b' + a·yb, and that is da·b + a·db moved
      product_slope : Slope s σ h (binary_node (operation (binary Multiply)) a b) (add_of formulas (mul_of formulas da b) (mul_of formulas a db))
      product_slope =
          record {
            x = A.x *ℤ B.x;
            x' = A.x' *ℤ B.x';
            y = A.y *ℤ B.x' +ℤ A.x *ℤ B.y;
            d = A.d *ℤ B.x +ℤ A.x *ℤ B.d;
            q = A.q *ℤ B.x' +ℤ A.d *ℤ B.y +ℤ A.x *ℤ B.q;
            value = rw (A.value, B.value);
            moved = rw (A.moved, B.moved);
            slope =
                sum_value σ (mul_of formulas da b) (mul_of formulas a db) (A.d *ℤ B.x) (A.x *ℤ B.d)
                (product_value σ da b A.d B.x A.slope B.value)
                (product_value σ a db A.x B.d A.value B.slope);
            moves = products h A.x A.y A.x' B.x B.y B.x' A.moves B.moves;
            rest =
                sums h (A.d *ℤ B.x) (A.q *ℤ B.x' +ℤ A.d *ℤ B.y) (A.y *ℤ B.x') (A.x *ℤ B.d) (A.x *ℤ B.q) (A.x *ℤ B.y)
                (products h A.d A.q A.y B.x B.y B.x' A.rest B.moves)
                (scaled h A.x B.d B.q B.y B.rest);
          }

  -- a difference is the sum with the opposite
  difference_slope : {a da b db : Formula} → Slope s σ h a da → Slope s σ h b db
      → Slope s σ h (binary_node (operation (binary Subtract)) a b) (add_of formulas da (negated db))
  difference_slope A B = let S = sum_slope A (negative_slope B) in same S (rw (A.value, B.value)) (rw (A.moved, B.moved)) S.slope

  -- by the rules that a plain formula meets
  pub slope_of : {f g : Formula} → Ruled s f g → Slope s σ h f g
  slope_of (without {f} p e) = without_slope f p e
  slope_of (itself {i} e) = itself_slope i e
  slope_of (positive r) = positive_slope (slope_of r)
  slope_of (negative r) = negative_slope (slope_of r)
  slope_of (sum r t) = sum_slope (slope_of r) (slope_of t)
  slope_of (difference r t) = difference_slope (slope_of r) (slope_of t)
  slope_of (product r t) = product_slope (slope_of r) (slope_of t)

  pub as_rate : (f g : Formula) → Slope s σ h f g → Rate s σ h f g
  as_rate f g A =
      record {
        moved = A.x';
        value = A.x;
        slope = A.d;
        multiple = A.q;
        moved_is = A.moved;
        value_is = A.value;
        slope_is = A.slope;
        left = left_over h A.x A.y A.x' A.d A.q A.moves A.rest;
      }

  -- 0 × formula is 0
  pub primal_slope : (f g : Formula) → Slope s σ h f g → Slope s σ h f (with_primal f g)
  primal_slope f g A = same A A.value A.moved (rw (zero_value, A.value, A.slope, zero-*ℤ A.x, +ℤ_idl A.d))
