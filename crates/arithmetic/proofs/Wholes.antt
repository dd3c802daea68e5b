-- `integer_of` is a value's exact value, where that is a whole number.
use mathlib.Core.Logic.{◌↔◌}
use mathlib.Core.Path.{◌≡◌, refl, sym, ap, ◌∙◌}
use mathlib.Core.Bool.{Bool, true, false, cond}
use mathlib.Core.Option.{none, some}
use Prim.Native.Nat.{ℕ, ◌*◌, ◌/◌, ◌%◌, ◌<◌}
use native.Mathlib.Nat.{div-add-mod', mul-mod_left}
use native.Mathlib.Omega.{arith}
use borrow.Author.Tests.{eqb-true, eq-eqb}
use lib.Dec.{eqb}
use lib.IntN.{ℤ, pos, nat_abs, ◌*ℤ◌}
use lib.Ieee.{Float, nan, inf, fin}
use lib.Ieee.Positive.{num, den, den_pos}
use Rattle.arithmetic.specs.Value.{finite, whole, sign, signed, integer_of}
use Rattle.arithmetic.proofs.Integers.{neg_mul, nat_abs_neg, nat_abs_mul, mul_right_cancel}

signed_mul : (s : Bool) (k d : ℕ) → signed s k *ℤ pos d ≡ signed s (k * d)
signed_mul false k d = refl
signed_mul true k d = neg_mul (pos k) (pos d)

pub size_back : (s : Bool) (k : ℕ) → nat_abs (signed s k) ≡ k
size_back false k = refl
size_back true k = nat_abs_neg (pos k)

-- z = ±num x / den x
abbrev pub Exactly : Float → ℤ → Type 0
Exactly x z = (finite x ≡ true) × (z *ℤ pos (den x) ≡ signed (sign x) (num x))

from_number : (s : Bool) (n d : ℕ) (z : ℤ) (t : Bool) → eqb (n % d) 0 ≡ t → cond t (some (signed s (n / d))) none ≡ some z → z *ℤ pos d ≡ signed s n
from_number s n d z false e h = cc
from_number s n d z true e h =
    let q : z ≡ signed s (n / d) = cc in
    let r : n / d * d ≡ n = omega (arith, div-add-mod' n d, eqb-true (n % d) 0 e) in
    ap (λ (x : ℤ). x *ℤ pos d) q ∙ signed_mul s (n / d) d ∙ ap (signed s) r

to_number : (s : Bool) (n d : ℕ) (z : ℤ) → 0 < d → z *ℤ pos d ≡ signed s n → cond (eqb (n % d) 0) (some (signed s (n / d))) none ≡ some z
to_number s n d z h e =
    let p : nat_abs z * d ≡ n = sym (nat_abs_mul z (pos d)) ∙ ap nat_abs e ∙ size_back s n in
    let m : n % d ≡ 0 = ap (λ (x : ℕ). x % d) (sym p) ∙ mul-mod_left (nat_abs z) d in
    let r : n / d * d ≡ n = omega (arith, div-add-mod' n d) in
    let q : signed s (n / d) ≡ z = mul_right_cancel (signed s (n / d)) z (pos d) h (signed_mul s (n / d) d ∙ ap (signed s) r ∙ sym e) in
    rw (eq-eqb (n % d) 0 m, q)

-- a value is read as z exactly where it is finite and z is its exact value
pub integer_exactly : (x : Float) (z : ℤ) → (integer_of x ≡ some z) ↔ Exactly x z
unfolding integer_of whole
integer_exactly nan z = ((λ e. (cc, cc)), (λ e. cc))
integer_exactly (inf s) z = ((λ e. (cc, cc)), (λ e. cc))
integer_exactly (fin s m e) z =
    let x = fin s m e in
    ((λ h. (refl, from_number s (num x) (den x) z (eqb (num x % den x) 0) refl h)), (λ h. to_number s (num x) (den x) z (den_pos x) h.1))
