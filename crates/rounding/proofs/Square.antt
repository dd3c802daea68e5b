-- Squares of whole numbers, and the whole part of a root.
use mathlib.Core.Path.{◌≡◌, refl}
use mathlib.Core.Bool.{Bool, true, false, not, cond}
use Prim.Native.Nat.{ℕ, zero, suc, ◌+◌, ◌*◌, ◌/◌, ◌^◌, ◌≤◌, ◌<◌}
use native.Mathlib.Nat.{le_trans, le_of_eq, le_antisymm, lt_of_lt_of_le, lt_of_not-le, not-le_of_lt, le_of_suc-le-suc, mul_assoc, mul_left_comm, mul-add, add-mul, add_assoc, mul-one, one-mul, pow-suc, mul-le-mul, div-lt_iff_lt-mul, zero-lt-suc}
use native.Mathlib.Numerals.{add-one}
use native.Mathlib.Omega.{arith}
use lib.Dec.{T, leb, leb→le, nleb→lt}
use lib.Ieee.{size}
use lib.Ieee.Digits.{size-lt}
use Rattle.arithmetic.specs.Root.{grown, root_below, root}
use Rattle.rounding.specs.Square.{Root}

-- ---- squares
pub square_twice : (r : ℕ) → (2 * r) * (2 * r) ≡ 4 * (r * r)
square_twice r = simp (mul_assoc, mul_left_comm) (omega arith)

pub square_more : (r : ℕ) → (r + 1) * (r + 1) ≡ r * r + 2 * r + 1
square_more r = simp (mul-add, add-mul, mul-one, one-mul, add_assoc) (omega arith)

-- ---- `root` is the whole root
grown_is : (n r : ℕ) → Root (n / 4) r → Root n (grown n r)
grown_is n r h = go (leb ((2 * r + 1) * (2 * r + 1)) n) (leb→le ((2 * r + 1) * (2 * r + 1)) n) (nleb→lt ((2 * r + 1) * (2 * r + 1)) n)
  where
    a : (2 * r) * (2 * r) ≡ 4 * (r * r)
    a = square_twice r

    b : (r + 1) * (r + 1) ≡ r * r + 2 * r + 1
    b = square_more r

    d : (2 * r + 1) * (2 * r + 1) ≡ (2 * r) * (2 * r) + 2 * (2 * r) + 1
    d = square_more (2 * r)

    e : (2 * r + 1 + 1) * (2 * r + 1 + 1) ≡ (2 * r + 1) * (2 * r + 1) + 2 * (2 * r + 1) + 1
    e = square_more (2 * r + 1)

    go : (t : Bool) → (T t → (2 * r + 1) * (2 * r + 1) ≤ n) → (T (not t) → n < (2 * r + 1) * (2 * r + 1)) → Root n (cond t (2 * r + 1) (2 * r))
    go true x y = let u = x tt in let w = a in let w' = b in let w'' = d in let w''' = e in (u, omega arith)
    go false x y = let u = y tt in let w = a in (omega arith, u)

pub root_below_is : (d n : ℕ) → n < 4 ^ d → Root n (root_below d n)
unfolding root_below
root_below_is zero n h = (omega arith, omega arith)
root_below_is (suc d) n h = grown_is n (root_below d (n / 4)) (root_below_is d (n / 4) ((div-lt_iff_lt-mul (zero-lt-suc 3)).1 (lt_of_lt_of_le h (le_of_eq (pow-suc 4 d)))))

two_four : (d : ℕ) → 2 ^ d ≤ 4 ^ d
two_four zero = le_of_eq refl
two_four (suc d) = let h = two_four d in let a = pow-suc 2 d in let b = pow-suc 4 d in omega arith

pub root_is : (n : ℕ) → Root n (root n)
unfolding root
root_is n = root_below_is (size n) n (lt_of_lt_of_le (size-lt n) (two_four (size n)))

-- ---- what a root is compared with
pub root_ge : (n r s : ℕ) → Root n r → s * s ≤ n → s ≤ r
root_ge n r s h k = le_of_suc-le-suc (lt_of_not-le (λ (g : suc r ≤ s). not-le_of_lt h.1 (le_trans (mul-le-mul (le_trans (le_of_eq (add-one r)) g) (le_trans (le_of_eq (add-one r)) g)) k)))

pub root_lt : (n r s : ℕ) → Root n r → n < s * s → r < s
root_lt n r s h k = lt_of_not-le (λ (g : s ≤ r). not-le_of_lt k (le_trans (mul-le-mul g g) h.0))

pub root_unique : (n r s : ℕ) → Root n r → Root n s → r ≡ s
root_unique n r s h k = le_antisymm (root_ge n s r k h.0) (root_ge n r s h k.0)
