-- What the methods of the library give, as the definitions have it.
use Rattle.std.proofs.Common.{◌≡◌, ℕ, suc, ◌+◌, ◌-◌, ◌*◌, ◌/◌, ◌%◌, ◌<◌, Bool, true, false, cond, not, eqb, refl, ap, ◌∙◌, mod-lt, div-add-mod', suc-mul, eqb-true, arith}
use native.Mathlib.Nat.{mul-pos}
use borrow.Author.Tests.{eqb-false, le-ltb}
use Rattle.std.proofs.lemmas.Nat.{div-mul-add}
use Rattle.std.specs.Float as Float
use lib.IntN.{ℤ}
use lib.Ieee.{Float, nan, inf, fin, Format, binary64, le, sub, sum, of_bits, up, down, round}
use lib.Ieee.Scale.{round_same}
use lib.Ieee.Fits.{down_pos}
use Rattle.arithmetic.specs.Value.{0f, absolute, finite}
use Rattle.arithmetic.specs.Round.{ceil, ceil_div, floor}

-- x - x is 0, or a NaN
round_zero : (c : ℕ) → 0 < c → round binary64 false 0 c ≡ 0f
round_zero c h = round_same binary64 false 0 c 0 1 h (omega arith) (omega arith) ∙ (unfold round in refl)

none_left : (s : Bool) (a c : ℕ) → 0 < c → sum binary64 s a (not s) a c ≡ 0f
unfolding sum
none_left true a c h = let z : a - a ≡ 0 = omega arith in rw (le-ltb a a (omega arith), z) (round_zero c h)
none_left false a c h = let z : a - a ≡ 0 = omega arith in rw (le-ltb a a (omega arith), z) (round_zero c h)

from_itself : (s : Bool) (m : ℕ) (e : ℤ) → sub binary64 (fin s m e) (fin s m e) ≡ 0f
unfolding sub
from_itself s m e = none_left s (m * up e * down e) (down e * down e) (mul-pos (down_pos e) (down_pos e))

pub finite_is : (x : Float) → le (of_bits binary64 0) (sub binary64 x x) ≡ finite x
unfolding sub le of_bits
finite_is nan = refl
finite_is (inf true) = refl
finite_is (inf false) = refl
finite_is (fin s m e) = ap (le 0f) (from_itself s m e)

pub absolute_is : (x : Float) → Float.float_with_sign false x ≡ absolute x
unfolding Float.float_with_sign absolute
absolute_is nan = refl
absolute_is (inf s) = refl
absolute_is (fin s m e) = refl

-- ---- a fraction n / d rounded up
rounded_up : (n d : ℕ) → 0 < d → (n + d - 1) / d ≡ ceil_div n d
rounded_up n d h = by_rest (n / d) (n % d) (mod-lt n h) (div-add-mod' n d) (eqb (n % d) 0) refl
  where
    by_rest : (q r : ℕ) → r < d → q * d + r ≡ n → (b : Bool) → eqb r 0 ≡ b → (n + d - 1) / d ≡ cond (eqb r 0) q (suc q)
    by_rest q r l e true f =
        let z = eqb-true r 0 f in
        let k : n + d - 1 ≡ q * d + (d - 1) = omega arith in
        rw f (ap (λ (x : ℕ). x / d) k ∙ div-mul-add q d (d - 1) (omega arith))
    by_rest q r l e false f =
        let z = eqb-false r 0 f in
        let k : n + d - 1 ≡ suc q * d + (r - 1) = omega (arith, suc-mul q d) in
        rw f (ap (λ (x : ℕ). x / d) k ∙ div-mul-add (suc q) d (r - 1) (omega arith))

pub floor_is : (F : Format) (x : Float) → Float.floor F x ≡ floor F x
unfolding Float.round_with floor
floor_is F nan = refl
floor_is F (inf s) = refl
floor_is F (fin false m e) = refl
floor_is F (fin true m e) = ap (λ (n : ℕ). round F true n 1) (rounded_up (m * up e) (down e) (down_pos e))

pub ceil_is : (F : Format) (x : Float) → Float.ceil F x ≡ ceil F x
unfolding Float.round_with ceil
ceil_is F nan = refl
ceil_is F (inf s) = refl
ceil_is F (fin false m e) = ap (λ (n : ℕ). round F false n 1) (rounded_up (m * up e) (down e) (down_pos e))
ceil_is F (fin true m e) = refl
