-- What the operations of a format give, on one page: each is stated for the format's width and holds for any (`proofs/`); `Conforms binary64` is f64.
use Rattle.std.specs.Prelude.{◌≡◌, Bool, true, false, not, ◌&&◌, ℕ, ◌*◌, ◌<◌, T, pos, ◌+ℤ◌, ◌-ℤ◌, Float}
use Rattle.std.specs.Float.{nan, inf, fin, Format}
use Rattle.std.specs.Float.Ieee.{unlike, round, add, sub, mul, div, lt, fits, is_nan}
use Rattle.std.specs.Float.Ieee.Positive.{num, den, positive}
use Rattle.arithmetic.specs.Width.{width}
use Rattle.arithmetic.specs.Value.{finite, 0f, -0f}
use Rattle.arithmetic.specs.Round.{floor, ceil}
use Rattle.arithmetic.specs.Root.{sqrt_at, sqrt}
use Rattle.arithmetic.specs.Modulo.{modulo}
use Rattle.arithmetic.specs.Extremum.{below, above}
use Rattle.rounding.specs.Rounding.{Size, Counts, IsRounded, round_at}
use Rattle.rounding.specs.Exact.{sign, signed, RoundsTo}
use Rattle.rounding.specs.Whole.{IsFloor, IsCeil, floor_at, ceil_at}
use Rattle.rounding.specs.NearestRoot.{IsNearestRoot}
use Rattle.rounding.specs.Modulo.{IsModulo, modulo_at}
use Rattle.rounding.specs.Extremum.{Decides}

-- the operations of the format are those of its width; Sqrt is by definition
pub record AtWidth (F : Format) : Type 0 where
  pub rounds : (s : Bool) (a c : ℕ) → round F s a c ≡ round_at (width F) s a c
  pub floors : (x : Float) → floor F x ≡ floor_at (width F) x
  pub ceils : (x : Float) → ceil F x ≡ ceil_at (width F) x
  pub roots : (x : Float) → sqrt F x ≡ sqrt_at (width F) x
  pub modulos : (a b : Float) → T (fits F a) → T (fits F b) → T (finite a) → T (positive b) → modulo F a b ≡ modulo_at (width F) a b

pub record Conforms (F : Format) : Type 0 where
  -- what the format holds, but for a NaN, has a sign and a size of the width; every sign and size is held, and as one value only
  pub sizes : (x : Float) → T (fits F x) → T (not (is_nan x)) → (j : ℕ) × Counts (width F) x (sign x) j × Size (width F) j
  pub values : (s : Bool) (j : ℕ) → Size (width F) j → (x : Float) × T (fits F x) × Counts (width F) x s j
  pub one : (x y : Float) (s : Bool) (j : ℕ) → T (fits F x) → T (fits F y) → Counts (width F) x s j → Counts (width F) y s j → x ≡ y
  -- `round` is to the nearest, ties to even, and nothing else is
  pub rounding : (s : Bool) (a c : ℕ) → 0 < c → IsRounded (width F) s a c (round F s a c)
  pub single : (s : Bool) (a c : ℕ) (y : Float) → 0 < c → T (fits F y) → IsRounded (width F) s a c y → y ≡ round F s a c
  -- "Each operation rounds once": of finite values the exact result, over a common denominator. A sum that is exactly 0 is -0 where both values are negative, and 0
  -- otherwise.
  pub plus : (x y : Float) → T (finite x) → T (finite y)
      → RoundsTo (width F) (signed (sign x) (num x * den y) +ℤ signed (sign y) (num y * den x)) (den x * den y) (sign x && sign y) (add F x y)
  pub minus : (x y : Float) → T (finite x) → T (finite y)
      → RoundsTo (width F) (signed (sign x) (num x * den y) -ℤ signed (sign y) (num y * den x)) (den x * den y) (sign x && not (sign y)) (sub F x y)
  pub times : (x y : Float) → T (finite x) → T (finite y) → IsRounded (width F) (unlike (sign x) (sign y)) (num x * num y) (den x * den y) (mul F x y)
  pub over : (x y : Float) → T (finite x) → T (finite y) → 0 < num y → IsRounded (width F) (unlike (sign x) (sign y)) (num x * den y) (num y * den x) (div F x y)
  -- "Floor and Ceil keep the sign of zero."
  pub floors : (x : Float) → T (fits F x) → T (finite x) → IsFloor (width F) x (floor F x)
  pub ceils : (x : Float) → T (fits F x) → T (finite x) → IsCeil (width F) x (ceil F x)
  -- "Sqrt is the nearest f64 to the exact root ...; of -0 it is -0, and below zero Domain"
  pub roots : (x : Float) → T (fits F x) → T (positive x) → IsNearestRoot (width F) (num x) (den x) (sqrt F x)
  pub root_of_zero : (s : Bool) → sqrt F (fin s 0 (pos 0)) ≡ fin s 0 (pos 0)
  pub root_below_zero : (x : Float) → T (lt x 0f) → sqrt F x ≡ nan
  -- "Modulo takes the exact remainder r, adds b once if r < 0, and gives 0.0 if that sum reached b."
  pub modulos : (a b : Float) → T (fits F a) → T (fits F b) → T (finite a) → T (positive b) → IsModulo (width F) a b (modulo F a b)
  pub modulo_of_minus : (a : Float) → T (finite a) → lt a 0f ≡ true → modulo F a (inf false) ≡ 0f
  pub modulo_of_plus : (a : Float) → T (finite a) → lt a 0f ≡ false → modulo F a (inf false) ≡ a
  -- "IEEE 754-2019 puts -0 below +0 for minimum and maximum. Min and Max follow that now, in every order of arguments"
  pub minimums : Decides F lt below -0f
  pub maximums : Decides F (λ x y. lt y x) above 0f
  -- the format holds every result
  pub fit : (x y : Float) → T (fits F x) → T (fits F (add F x y)) × T (fits F (sub F x y)) × T (fits F (mul F x y)) × T (fits F (div F x y)) × T (fits F (floor F x))
      × T (fits F (ceil F x)) × T (fits F (sqrt F x)) × T (fits F (modulo F x y))
