-- What the meaning of rounding rules out, at a small width: two digits, sizes of 0 to 4, 6, 8, 12, 16 and 24 units, and 32 for an infinity.
use mathlib.Core.Path.{◌≡◌, refl, subst}
use mathlib.Core.Bool.{Bool}
use Prim.Native.Nat.{ℕ, ◌*◌, ◌^◌, ◌≤◌, ◌<◌}
use native.Mathlib.Omega.{arith}
use lib.Dec.{lit≤, lit<}
use lib.Ieee.{Float, inf}
use Rattle.arithmetic.specs.Width.{Width}
use Rattle.rounding.specs.Rounding.{Size, distance, off, IsRounded}
use Rattle.rounding.proofs.Rounded.{infinite_from}

abbrev small : Width
small = record { fraction = 1; power = 2 }

-- a size of d * 2 ^ k units
sized : (d k : ℕ) → d < 2 ^ 2 → d * 2 ^ k ≤ 32 → Size small (d * 2 ^ k)
sized d k f l = record { short = record { digits = d; zeros = k; few = f; same = refl }; within = l }

-- 5 1/2 units become 6, and not 4 by cutting
pub no_cut : (s : Bool) (y : Float) (r : IsRounded small s 11 8 y) → r.units ≡ 4 → ⊥
no_cut s y r e = none (subst (λ (j : ℕ). off small 11 8 j ≤ off small 11 8 6) e (r.closest 6 (sized 3 1 (lit< tt) (lit≤ tt))))
  where
    none : 12 ≤ 4 → ⊥
    none l = omega arith

-- 5 units lie half way between 4 and 6, and become 4: not 6 by half up, for either sign, so not by half away from zero either
pub no_half_up : (s : Bool) (y : Float) (r : IsRounded small s 5 4 y) → r.units ≡ 6 → ⊥
no_half_up s y r e =
    let h = subst (λ (j : ℕ). (4 ≡ j → ⊥) → off small 5 4 j ≡ off small 5 4 4 → (half : ℕ) × (j ≡ 2 * half * distance j 4)) e (r.even 4 (sized 1 2 (lit< tt) (lit≤ tt))) (λ i. none i) refl in
    odd h.0 h.1
  where
    none : ◌≡◌ {A = ℕ} 4 6 → ⊥
    none i = omega arith

    odd : (half : ℕ) → 6 ≡ 2 * half * 2 → ⊥
    odd half i = omega arith

-- 7 units lie half way between 6 and 8, and become 8: not 6 by half down
pub no_half_down : (s : Bool) (y : Float) (r : IsRounded small s 7 4 y) → r.units ≡ 6 → ⊥
no_half_down s y r e =
    let h = subst (λ (j : ℕ). (8 ≡ j → ⊥) → off small 7 4 j ≡ off small 7 4 8 → (half : ℕ) × (j ≡ 2 * half * distance j 8)) e (r.even 8 (sized 1 3 (lit< tt) (lit≤ tt))) (λ i. none i) refl in
    odd h.0 h.1
  where
    none : ◌≡◌ {A = ℕ} 8 6 → ⊥
    none i = omega arith

    odd : (half : ℕ) → 6 ≡ 2 * half * 2 → ⊥
    odd half i = omega arith

-- 28 units, half way between 24 and 32, are infinite; less is not
pub infinite_at : (s : Bool) (y : Float) → IsRounded small s 7 1 y → y ≡ inf s
infinite_at s y r = (infinite_from small s 7 1 y (lit< tt) (lit≤ tt) r).1 (lit≤ tt)

pub finite_below : (s : Bool) (y : Float) → IsRounded small s 69 10 y → y ≡ inf s → ⊥
finite_below s y r e = none ((infinite_from small s 69 10 y (lit< tt) (lit≤ tt) r).0 e)
  where
    none : 560 ≤ 552 → ⊥
    none l = omega arith
