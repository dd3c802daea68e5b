-- Both formats conform.
use mathlib.Core.Path.{◌≡◌, refl}
use mathlib.Core.Bool.{true, false}
use Prim.Native.Nat.{ℕ, zero, suc, ◌+◌, ◌*◌, ◌≤◌}
use native.Mathlib.Nat.{zero-mul}
use native.Mathlib.Omega.{arith}
use lib.Dec.{T, ltb→lt}
use lib.Ieee.{Float, nan, inf, fin, Format, binary32, binary64, up, down, rem, lt, fits}
use lib.Ieee.Fits.{add-fits, sub-fits, mul-fits, div-fits}
use lib.Ieee.Positive.{num, den, positive}
use Rattle.arithmetic.specs.Width.{width}
use Rattle.arithmetic.specs.Value.{finite, 0f}
use Rattle.arithmetic.specs.Root.{sqrt, sqrt_at}
use Rattle.arithmetic.specs.Modulo.{modulo}
use Rattle.rounding.specs.NearestRoot.{IsNearestRoot}
use Rattle.rounding.specs.Modulo.{IsModulo, modulo_at}
use Rattle.rounding.specs.Formats.{AtWidth, Conforms}
use Rattle.rounding.proofs.Rounded.{round_is_at, round_rounded}
use Rattle.rounding.proofs.Value.{fits_size, size_fits, one_value, rounded_is}
use Rattle.rounding.proofs.Once.{add_rounds, sub_rounds, mul_rounds, div_rounds}
use Rattle.rounding.proofs.Whole.{floor_is_at, ceil_is_at, floor_is, ceil_is, floor_fits, ceil_fits}
use Rattle.rounding.proofs.NearestRoot.{sqrt_nearest, sqrt_zero, sqrt_fits}
use Rattle.rounding.proofs.Remainder.{modulo_is_at, modulo_is, modulo_infinite, modulo_fits}
use Rattle.rounding.proofs.Extremum.{min_decides, max_decides}

root_of : (F : Format) (x : Float) → T (fits F x) → T (positive x) → IsNearestRoot (width F) (num x) (den x) (sqrt F x)
root_of F nan t h = absurd h
root_of F (inf s) t h = absurd h
root_of F (fin true m e) t h = absurd h
root_of F (fin false zero e) t h = absurd h
root_of F (fin false (suc m) e) t h = sqrt_nearest F m e t

root_below : (F : Format) (x : Float) → T (lt x 0f) → sqrt F x ≡ nan
unfolding lt sqrt_at
root_below F nan h = absurd h
root_below F (inf true) h = refl
root_below F (inf false) h = absurd h
root_below F (fin false m e) h = absurd (none (m * up e) (down e) (ltb→lt (m * up e * 1) (0 * down e) h))
  where
    none : (x y : ℕ) → suc (x * 1) ≤ 0 * y → ⊥
    none x y l = let z = zero-mul y in omega arith
root_below F (fin true zero e) h = absurd (none (up e) (down e) (ltb→lt 0 (0 * up e * 1 + 0 * down e) h))
  where
    none : (x y : ℕ) → suc 0 ≤ 0 * x * 1 + 0 * y → ⊥
    none x y l = let z = zero-mul y in let w = zero-mul x in omega arith
root_below F (fin true (suc m) e) h = refl

modulo_of : (F : Format) (a b : Float) → T (fits F a) → T (fits F b) → T (finite a) → T (positive b) → IsModulo (width F) a b (modulo F a b)
modulo_of F nan b t u h k = absurd h
modulo_of F (inf s) b t u h k = absurd h
modulo_of F (fin s m e) nan t u h k = absurd k
modulo_of F (fin s m e) (inf r) t u h k = absurd k
modulo_of F (fin s m e) (fin true n d) t u h k = absurd k
modulo_of F (fin s m e) (fin false zero d) t u h k = absurd k
modulo_of F (fin s m e) (fin false (suc n) d) t u h k = modulo_is F s m e n d t u

modulo_at_of : (F : Format) (a b : Float) → T (fits F a) → T (fits F b) → T (finite a) → T (positive b) → modulo F a b ≡ modulo_at (width F) a b
modulo_at_of F nan b t u h k = absurd h
modulo_at_of F (inf s) b t u h k = absurd h
modulo_at_of F (fin s m e) nan t u h k = absurd k
modulo_at_of F (fin s m e) (inf r) t u h k = absurd k
modulo_at_of F (fin s m e) (fin true n d) t u h k = absurd k
modulo_at_of F (fin s m e) (fin false zero d) t u h k = absurd k
modulo_at_of F (fin s m e) (fin false (suc n) d) t u h k = modulo_is_at F s m e n d t u

pub at_width : (F : Format) → AtWidth F
at_width F = record { rounds = round_is_at F; floors = floor_is_at F; ceils = ceil_is_at F; roots = λ x. refl; modulos = modulo_at_of F }

below_infinity : (F : Format) (a : Float) → T (finite a) → lt a 0f ≡ true → modulo F a (inf false) ≡ 0f
below_infinity F nan h k = absurd h
below_infinity F (inf s) h k = absurd h
below_infinity F (fin s m e) h k = modulo_infinite F s m e k

kept_infinity : (F : Format) (a : Float) → T (finite a) → lt a 0f ≡ false → modulo F a (inf false) ≡ a
unfolding rem
kept_infinity F nan h k = absurd h
kept_infinity F (inf s) h k = absurd h
kept_infinity F (fin s m e) h k = rw k

pub conforms : (F : Format) → Conforms F
conforms F = record {
  sizes = fits_size F;
  values = size_fits F;
  one = one_value F;
  rounding = round_rounded F;
  single = rounded_is F;
  plus = add_rounds F;
  minus = sub_rounds F;
  times = mul_rounds F;
  over = div_rounds F;
  floors = floor_is F;
  ceils = ceil_is F;
  roots = root_of F;
  root_of_zero = λ s. sqrt_zero (width F) s _;
  root_below_zero = root_below F;
  modulos = modulo_of F;
  modulo_of_minus = below_infinity F;
  modulo_of_plus = kept_infinity F;
  minimums = min_decides F;
  maximums = max_decides F;
  fit = λ x y t. (add-fits F x y, sub-fits F x y, mul-fits F x y, div-fits F x y, floor_fits F x, ceil_fits F x, sqrt_fits F x t, modulo_fits F x y t);
}

pub f64_conforms : Conforms binary64
f64_conforms = conforms binary64

pub f32_conforms : Conforms binary32
f32_conforms = conforms binary32
