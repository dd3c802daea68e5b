-- Values: IEEE 754 numbers as `lib.Ieee` has them, and the tests that document 01 puts to them.
use Rattle.std.specs.Prelude.{Bool, true, false, cond, ℕ, ◌*◌, ◌/◌, ◌%◌, ℤ, pos, negsuc, neg_ℤ, eqb, Float}
use Rattle.std.proofs.Math.Option.{Option, none, some}
use Rattle.std.specs.Float.Ieee.{eq, up, down}
use Rattle.std.specs.Float.Ieee as Ieee
use Rattle.std.specs.Float.Ieee.Positive.{num, den}
-- neither a NaN nor an infinity
pub use Rattle.std.specs.Float.Ieee.Scale.{finite}

abbrev pub 0f : Float
0f = Ieee.fin false 0 (pos 0)

abbrev pub -0f : Float
-0f = Ieee.fin true 0 (pos 0)

abbrev pub 1f : Float
1f = Ieee.fin false 1 (pos 0)

abbrev pub 2f : Float
2f = Ieee.fin false 1 (pos 1)

abbrev pub 3f : Float
3f = Ieee.fin false 3 (pos 0)

abbrev pub half : Float
half = Ieee.fin false 1 (negsuc 0)

-- "truth values and comparisons 1.0 or 0.0"
abbrev pub truth_value : Bool → Float
truth_value b = cond b 1f 0f

-- either zero
abbrev pub is_zero : Float → Bool
is_zero x = eq x 0f

abbrev pub is_one : Float → Bool
is_one x = eq x 1f

-- finite, with no fraction
unfoldable pub whole : Float → Bool
whole Ieee.nan = false
whole (Ieee.inf s) = false
whole (Ieee.fin s m e) = eqb (m * up e % down e) 0

abbrev pub sign : Float → Bool
sign Ieee.nan = false
sign (Ieee.inf s) = s
sign (Ieee.fin s m e) = s

-- ±a
abbrev pub signed : Bool → ℕ → ℤ
signed false a = pos a
signed true a = neg_ℤ (pos a)

-- The whole number that a value is, of any size, and none where it is no whole number. `num x / den x` is the size of a finite x.
unfoldable pub integer_of : Float → Option ℤ
unfolding whole
integer_of x = cond (whole x) (some (signed (sign x) (num x / den x))) none

unfoldable pub absolute : Float → Float
absolute Ieee.nan = Ieee.nan
absolute (Ieee.inf s) = Ieee.inf false
absolute (Ieee.fin s m e) = Ieee.fin false m e
