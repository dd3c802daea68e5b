-- How large and how deep the derivative of a plain formula is: no more than 2·n + n·k nodes for n nodes at depth k, and not twice as deep.
use mathlib.Core.Path.{◌≡◌}
use mathlib.Core.Bool.{Bool, true, false, cond, ◌||◌}
use Prim.Native.Nat.{ℕ, suc, ◌+◌, ◌*◌, ◌≤◌, ◌<◌, max}
use native.Mathlib.Nat.{add-mul, mul-le-mul_left, mul-suc, suc-mul}
use native.Mathlib.Omega.{arith}
use Rattle.formula.specs.Operator.{binary, Add, Multiply}
use Rattle.formula.specs.Formula.{operation, Formula, size, depth}
use Rattle.formula.proofs.Sizes.{size_pos, depth_pos}
use Rattle.derivative.specs.Rules.{add_of, mul_of}
use Rattle.derivative.specs.Differentiate.{formulas, binary_node, with_primal}
use Rattle.derivative.proofs.Ruled.{Ruled, without, itself, positive, negative, sum, difference, product, zero_literal, minus_one_literal, negated}

-- ---- simplified sums and products are no larger than whole ones

abbrev Joined : Formula → Formula → Formula → Type 0
Joined a b c = (size c ≤ suc (size a + size b)) × (depth c ≤ suc (max (depth a) (depth b)))

add_joined : (a b : Formula) → Joined a b (add_of formulas a b)
add_joined a b = go (formulas.is_zero a) (formulas.is_zero b)
  where
    go : (t u : Bool) → Joined a b (cond t b (cond u a (binary_node (operation (binary Add)) a b)))
    go true u = (omega arith, omega arith)
    go false true = (omega arith, omega arith)
    go false false = (omega arith, omega arith)

mul_joined : (a b : Formula) → Joined a b (mul_of formulas a b)
mul_joined a b = go (formulas.is_zero a || formulas.is_zero b) (formulas.is_one a) (formulas.is_one b)
  where
    go : (t u v : Bool) → Joined a b (cond t zero_literal (cond u b (cond v a (binary_node (operation (binary Multiply)) a b))))
    go true u v = (omega arith, omega arith)
    go false true v = (omega arith, omega arith)
    go false false true = (omega arith, omega arith)
    go false false false = (omega arith, omega arith)

-- ---- the bounds

-- na + nb + 1 nodes, one level above ka and kb
grown : (na nb ka kb sa sb : ℕ) → sa ≤ 2 * na + na * ka → sb ≤ 2 * nb + nb * kb
    → sa + sb + (na + nb + 3) ≤ 2 * suc (na + (nb + 0)) + suc (na + (nb + 0)) * suc (max ka (max kb 0))
grown na nb ka kb sa sb p q =
    let k = max ka (max kb 0) in
    let n = na + (nb + 0) in
    let i : na * ka ≤ na * k = mul-le-mul_left na (omega arith) in
    let j : nb * kb ≤ nb * k = mul-le-mul_left nb (omega arith) in
    let e : n * k ≡ na * k + (nb + 0) * k = add-mul na (nb + 0) k in
    let r : (nb + 0) * k ≡ nb * k + 0 * k = add-mul nb 0 k in
    let m : suc n * suc k ≡ n * suc k + suc k = suc-mul n (suc k) in
    let l : n * suc k ≡ n * k + n = mul-suc n k in
    omega arith

module _ (s : ℕ) where
  pub rate_size : {f g : Formula} → Ruled s f g → size g ≤ 2 * size f + size f * depth f
  rate_size (without {f} p e) = omega (arith, size_pos f)
  rate_size (itself e) = omega arith
  rate_size (positive {a} {da} r) = omega (arith, grown (size a) 0 (depth a) 0 (size da) 0 (rate_size r) (omega arith))
  rate_size (negative {a} {da} r) =
      omega (arith, mul_joined minus_one_literal da, grown (size a) 0 (depth a) 0 (size da) 0 (rate_size r) (omega arith))
  rate_size (sum {a} {da} {b} {db} r t) =
      omega (arith, add_joined da db, grown (size a) (size b) (depth a) (depth b) (size da) (size db) (rate_size r) (rate_size t))
  rate_size (difference {a} {da} {b} {db} r t) =
      omega
      (arith, add_joined da (negated db), mul_joined minus_one_literal db, size_pos a, grown (size a) (size b) (depth a) (depth b) (size da) (size db) (rate_size r) (rate_size t))
  rate_size (product {a} {da} {b} {db} r t) =
      omega
      (arith, add_joined (mul_of formulas da b) (mul_of formulas a db), mul_joined da b, mul_joined a db, grown (size a) (size b) (depth a) (depth b) (size da) (size db) (rate_size r) (rate_size t))

  pub rate_depth : {f g : Formula} → Ruled s f g → depth g < 2 * depth f
  rate_depth (without {f} p e) = omega (arith, depth_pos f)
  rate_depth (itself e) = omega arith
  rate_depth (positive {a} {da} r) = omega (arith, rate_depth r)
  rate_depth (negative {a} {da} r) = omega (arith, mul_joined minus_one_literal da, depth_pos da, rate_depth r)
  rate_depth (sum {a} {da} {b} {db} r t) = omega (arith, add_joined da db, rate_depth r, rate_depth t)
  rate_depth (difference {a} {da} {b} {db} r t) =
      omega (arith, add_joined da (negated db), mul_joined minus_one_literal db, depth_pos db, rate_depth r, rate_depth t)
  rate_depth (product {a} {da} {b} {db} r t) =
      omega
      (arith, add_joined (mul_of formulas da b) (mul_of formulas a db), mul_joined da b, mul_joined a db, depth_pos a, depth_pos b, rate_depth r, rate_depth t)

-- "0 × formula + derivative"
pub tree_size : (f g : Formula) → size (with_primal f g) ≡ 3 + size f + size g
tree_size f g = omega arith

pub tree_depth : (f g : Formula) → depth (with_primal f g) ≡ suc (max (suc (depth f)) (depth g))
tree_depth f g = omega (arith, depth_pos f)
