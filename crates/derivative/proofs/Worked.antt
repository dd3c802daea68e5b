-- Exact values and rates of plain formulas, worked out.
use mathlib.Core.Path.{◌≡◌, refl}
use mathlib.Core.Bool.{true, false}
use mathlib.Core.List.{List, [], ◌∷◌}
use mathlib.Core.Option.{Option, some}
use Prim.Native.Nat.{ℕ, ◌*◌}
use lib.ListN.{get_or}
use lib.IntN.{ℤ, pos, negsuc, neg_ℤ}
use lib.Ieee.{of_bits}
use Rattle.arithmetic.specs.Value.{whole, integer_of}
use Rattle.arithmetic.proofs.Corners.{1e300}
use Rattle.formula.specs.Operator.{Binary, binary, unary, Add, Subtract, Multiply, Divide, Power, Negative}
use Rattle.formula.specs.Formula.{Formula, node, last, next, number, symbol, truth, operation}
use Rattle.derivative.specs.Differentiate.{binary_node, differentiate, with_primal, derivative}
use Rattle.derivative.specs.Polynomial.{Setting, plain, exact, shifted}

abbrev lit : ℕ → Formula
lit b = node (number b) last

abbrev x : Formula
x = node (symbol 0) last

abbrev y : Formula
y = node (symbol 1) last

abbrev of : Binary → Formula → Formula → Formula
of o a b = binary_node (operation (binary o)) a b

abbrev negative : Formula → Formula
negative a = node (operation (unary Negative)) (next a last)

abbrev at : List ℤ → Setting
at zs i = get_or zs i (pos 0)

abbrev 3e0 : ℕ
3e0 = 0x4008000000000000

abbrev 1e0 : ℕ
1e0 = 0x3ff0000000000000

abbrev -1e0 : ℕ
-1e0 = 0xbff0000000000000

abbrev -0e0 : ℕ
-0e0 = 0x8000000000000000

-- x²y + 3x, as Subtract(Multiply(x, Multiply(x, y)), Negative(Multiply(3, x)))
abbrev f : Formula
f = of Subtract (of Multiply x (of Multiply x y)) (negative (of Multiply (lit 3e0) x))

-- Its derivative by x. -1 × -1 isn't simplified.
abbrev g : Formula
g = of Add (of Add (of Multiply x y) (of Multiply x y)) (of Multiply (lit -1e0) (of Multiply (lit -1e0) (lit 3e0)))

pub by_x : derivative 0 false f ≡ some (with_primal f g)
by_x = refl

-- the formula with h added to x, the formula, and the derivative tree
abbrev row : List ℤ → ℤ → List (Option ℤ)
row zs h = exact (shifted 0 h (at zs)) f ∷ exact (at zs) f ∷ exact (at zs) (with_primal f g) ∷ []

-- 152 - 65 - 3 · 23 = 18 = 2 · 3 · 3; 65 - 65 - 0 · 23 = 0; 234 - 100 + 2 · -53 = 28 = 7 · -2 · -2
pub rates :
    (row (pos 5 ∷ pos 2 ∷ []) (pos 3) ≡ some (pos 152) ∷ some (pos 65) ∷ some (pos 23) ∷ [])
    × (row (pos 5 ∷ pos 2 ∷ []) (pos 0) ≡ some (pos 65) ∷ some (pos 65) ∷ some (pos 23) ∷ [])
    × (row (negsuc 3 ∷ pos 7 ∷ []) (negsuc 1) ≡ some (pos 234) ∷ some (pos 100) ∷ some (negsuc 52) ∷ [])
unfolding of_bits whole integer_of
rates = (refl, refl, refl)

-- ---- through every simplification

-- Multiply(0, x), Multiply(-0.0, x), Add(x, -0.0), y and a literal, by x: the derivative is the literal 0 or 1. Subtract(y, Negative(x)): -1 × -1 stays
pub simplified_rates :
    (differentiate 0 false (of Multiply (lit 0) x) ≡ some (lit 0))
    × (differentiate 0 false (of Multiply (lit -0e0) x) ≡ some (lit 0))
    × (differentiate 0 false (of Add x (lit -0e0)) ≡ some (lit 1e0))
    × (differentiate 0 false y ≡ some (lit 0))
    × (differentiate 0 false (lit 3e0) ≡ some (lit 0))
    × (differentiate 0 false (of Subtract y (negative x)) ≡ some (of Multiply (lit -1e0) (lit -1e0)))
simplified_rates = (refl, refl, refl, refl, refl, refl)

-- ---- what is plain

-- 1e300 × x is; at x = 3 and at x = -3 it is three times that number of 997 binary digits
pub large_value :
    (plain (of Multiply (lit 0x7e37e43c8800759c) x) ≡ true)
    × (exact (at (pos 3 ∷ [])) (of Multiply (lit 0x7e37e43c8800759c) x) ≡ some (pos (3 * 1e300)))
    × (exact (at (negsuc 2 ∷ [])) (of Multiply (lit 0x7e37e43c8800759c) x) ≡ some (neg_ℤ (pos (3 * 1e300))))
unfolding of_bits whole integer_of
large_value = (refl, refl, refl)

-- 0.5, the infinity, the NaN, a truth value, Power(x, 2) and x / x aren't, nor a formula that has one of them where it is multiplied by 0
pub not_plain :
    (plain (lit 0x3fe0000000000000) ≡ false)
    × (plain (lit 0x7ff0000000000000) ≡ false)
    × (plain (lit 0x7ff8000000000000) ≡ false)
    × (plain (node (truth true) last) ≡ false)
    × (plain (of Power x (lit 0x4000000000000000)) ≡ false)
    × (plain (of Divide x x) ≡ false)
    × (plain (of Multiply (lit 0) (of Add x (lit 0x3fe0000000000000))) ≡ false)
unfolding of_bits whole
not_plain = (refl, refl, refl, refl, refl, refl, refl)
